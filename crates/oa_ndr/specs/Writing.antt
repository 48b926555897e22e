-- Definitions for contracts and proofs, beside promise/Writing.
use Rattle.std.specs.Prelude.{◌≡◌, ℕ, List, [], ◌++◌}

-- A vector that ends with a field: the bytes before the field, and those of the field so far.
pub record FieldOutput : Type 0 where
  pub before : List ℕ
  pub field : List ℕ

-- A field without bytes.
abbrev pub field_after : List ℕ → FieldOutput
field_after before = record { before = before; field = [] }

-- The output with its field changed.
abbrev pub in_field : (List ℕ → List ℕ) → FieldOutput → FieldOutput
in_field put o = record { before = o.before; field = put o.field }

-- The output still has the bytes that it had earlier, whatever has been appended since.
unfoldable pub StillHas : FieldOutput → FieldOutput → Type 0
StillHas was o = (o.before ≡ was.before) × (behind : List ℕ) × (o.field ≡ was.field ++ behind)

-- No bytes have been removed between two states of the output.
abbrev pub TakesNothingBack : FieldOutput → FieldOutput → Type 0
TakesNothingBack old new = (was : FieldOutput) → StillHas was old → StillHas was new
