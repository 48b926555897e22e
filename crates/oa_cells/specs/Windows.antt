-- A row of places whose values are next to each other.
use Rattle.std.specs.Prelude.{◌≡◌, ℕ, List, [], ◌∷◌, ◌++◌, map, replicate, Option, Some, None}

-- The number of empty places, the values, and the number of empty places after them.
pub record FilledWindow (X : Type 0) : Type 0 where
  pub before : ℕ
  pub items : List X
  pub after : ℕ

module _ {X : Type 0} where
  -- The window has these numbers of empty places and these values.
  abbrev pub IsWindow : FilledWindow X → ℕ → List X → ℕ → Type 0
  IsWindow window before items after = (window.before ≡ before) × (window.items ≡ items) × (window.after ≡ after)

  -- The values of a row, in order.
  abbrev pub values : List (Option X) → List X
  values [] = []
  values (None ∷ slots) = values slots
  values (Some x ∷ slots) = x ∷ values slots

  -- The row of a window.
  unfoldable pub window_row : ℕ → List X → ℕ → List (Option X)
  window_row before items after = replicate before None ++ (map Some items ++ replicate after None)
