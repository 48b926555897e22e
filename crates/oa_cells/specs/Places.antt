-- The places of a block as a list: `None` is an empty place, `Some x` one with the value x.
use Rattle.std.specs.Prelude.{◌≡◌, ℕ, ◌≤◌, get_or, List, map, length, take, Option, Some, None}

module _ {X : Type 0} where
  -- The place at the index i has a value.
  abbrev pub HasValue : List (Option X) → ℕ → Type 0
  HasValue slots i = (x : X) × (get_or slots i None ≡ Some x)

  -- The first n places have values.
  abbrev pub BeginsFilled : List (Option X) → ℕ → Type 0
  BeginsFilled slots n = (n ≤ length slots) × ((xs : List X) × (take n slots ≡ map Some xs))
