-- The reading of a list of attributes reads it.
use Rattle.std.proofs.Common.{◌≡◌, ℕ, Bool, true, List, Option, refl, sym}
use Rattle.std.specs.Prelude.{not, codes}
use Rattle.oa_idl.specs.promise.Forms.{Word, ◌▸◌, gathered, nowhere}
use Rattle.oa_idl.specs.promise.Words.{passes}
use Rattle.oa_idl.specs.Reading.{ReadStep, Parser, and_then, bind, give, gather_at}
use Rattle.oa_idl.specs.Reading.ReadStep.{Got, Stuck}
use Rattle.oa_idl.specs.promise.Grammar.{symbol, next_attribute, last_attribute, attributes}
use Rattle.oa_idl.specs.GrammarReading.{grown_at, next_at, next_grown_at, last_at, attributes_at}
use Rattle.oa_idl.proofs.Parses.{Parses, Always, NoLimit}
use Rattle.oa_idl.proofs.PartParses.{enough, said_parses, with_parses, skip_parses}
use Rattle.oa_idl.proofs.FurtherParses.{alike_parses, require_parses}
use Rattle.oa_idl.proofs.ChoiceParses.{this_heads}
use Rattle.oa_idl.proofs.FurtherParses.{demand_parses, then_map}
use Rattle.oa_idl.proofs.Lists.{gather_parses}
use Rattle.oa_idl.proofs.Heads.{sign_heads, this_some}

module _ {S A B : Type 0} {attribute : A → List Word → Type 0} {may_come : S → A → Bool} {read : S → List Word → ReadStep A}
    (grow : S → A → S) (full : S → Bool) (finish : S → Option B)
    (r : (n : ℕ) (s : S) → Parses n Always (λ x ws. (may_come s x ≡ true) × attribute x ws) NoLimit Always (read s))
    (not_full : (s : S) (x : A) → may_come s x ≡ true → not (full s) ≡ true)
  where
    next_parses : (n : ℕ) (s : S) → Parses n Always (next_attribute attribute may_come s) NoLimit Always (next_at read grow full s)
    next_parses n s = said_parses {F = λ x ws. (not (full s) ≡ true) × (symbol (codes ",") ▸ (λ us. (may_come s x ≡ true) × attribute x us)) ws} (λ c h. h)
        (λ c h. h)
        (λ x t h f. (f.1.second.0, then_map t (λ u k. k.1) f.1)) (λ x t h f. (not_full s x f.0, then_map t (λ u k. (f.0, k)) f.1)) (λ c h. h)
        (require_parses (not (full s)) (skip_parses (passes (codes ",")) (r n s)))

    last_parses : (n : ℕ) (s : S) → Parses n Always (last_attribute finish s) NoLimit Always (last_at finish s)
    last_parses n s = demand_parses (passes (codes "]")) (finish s)

    more_parses : (n : ℕ) (s : S) → Parses n Always (gathered (next_attribute attribute may_come) grow nowhere (last_attribute finish) s) NoLimit Always
        (gather_at (passes (codes "]")) (next_grown_at read grow full) (last_at finish) s)
    more_parses n s = gather_parses grow (passes (codes "]")) next_parses last_parses (λ s x text f. this_some text f.1)
        (λ s x text more f. sign_heads (codes "]") (codes ",") refl text more f.1) (λ s b text more f. this_heads (passes (codes "]")) text more f.1) n s

    regrow : (s : S) (next : S → Parser B) (words : List Word)
        → bind (grown_at read grow s) next words ≡ bind (read s) (λ x. next (grow s x)) words
    unfolding bind give
    regrow s next words = by_step (read s words)
      where
        by_step : (o : ReadStep A) → and_then (and_then o (λ x. give (grow s x))) next ≡ and_then o (λ x. next (grow s x))
        by_step (Got x left) = refl
        by_step (Stuck why left) = refl

    pub attributes_parses : (n : ℕ) (s : S)
        → Parses n Always (attributes attribute may_come grow finish s) NoLimit Always (attributes_at read grow full finish s)
    attributes_parses n s =
        skip_parses (passes (codes "[")) (alike_parses
        (λ words. sym (regrow s (gather_at (passes (codes "]")) (next_grown_at read grow full) (last_at finish)) words))
        (with_parses {G = λ x b. gathered (next_attribute attribute may_come) grow nowhere (last_attribute finish) (grow s x) b} (r n s)
        (enough (λ x ws. (may_come s x ≡ true) × attribute x ws) n) (λ l x b text _ g k. tt)
        (λ x. said_parses (λ c h. h) (λ c h. h) (λ c t h f. f) (λ c t h f. f) (λ c h _. h) (more_parses n (grow s x)))))
