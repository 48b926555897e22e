-- The results of a closure that is called with one index after another.
use Rattle.std.specs.Prelude.{ℕ, ◌+◌, ◌<◌, List, length, Ok, Err}
use Rattle.std.specs.declared.result.Result.{Result}
use Rattle.std.specs.List.{FoldsTo, enumerate_from}

-- `step f i r g`: the call with the index i in the state f returned r and left the state g.
module _ {S X E : Type 0} (step : S → ℕ → Result X E → S → Type 0) where
  -- The calls with the indices from `from` on returned these elements, in this order.
  pub record IsFilledBy (first : S) (from : ℕ) (cells : List X) : Type 0 where
    pub last : S
    pub calls : FoldsTo (λ f cell g. step f cell.0 (Ok cell.1) g) first (enumerate_from from cells) last

  -- The calls with the indices from `from` on returned some elements, and then this error, at an index below n.
  pub record IsStoppedBy (first : S) (from n : ℕ) (error : E) : Type 0 where
    pub cells : List X
    pub before : S
    pub after : S
    pub calls : FoldsTo (λ f cell g. step f cell.0 (Ok cell.1) g) first (enumerate_from from cells) before
    pub within : from + length cells < n
    pub fails : step before (from + length cells) (Err error) after
