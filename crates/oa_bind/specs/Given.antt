-- Definitions for contracts and proofs, beside promise/Given.
use Rattle.std.specs.Prelude.{◌≡◌, ◌≢◌, ◌<◌, ℕ, ◌-◌, ℤ, pos, List, length, Some, slice_get, get_or}
use Rattle.oa_variant.specs.declared.variant.Variant.{Variant}
use Rattle.oa_bind.specs.promise.Given.{Given, argument_index}

-- The arguments of a call, from the two lists.
abbrev pub given_call : List ℤ → List Variant → Given
given_call named arguments = record { named = named; arguments = arguments }

-- The DISPID for which the argument at an index is given: its name, or the position of a parameter, which is the
-- parameter's DISPID (this project's choice).
abbrev pub dispid_of_argument : List ℤ → ℕ → ℕ → ℤ
dispid_of_argument named count i = get_or named i (pos (count - 1 - i))

-- The argument at the index i is given for this DISPID.
pub record IsGiven (call : Given) (i : ℕ) (id : ℤ) : Type 0 where
  pub there : i < length call.arguments
  pub named : dispid_of_argument call.named (length call.arguments) i ≡ id

-- The arguments that are given for none of the first n parameters are unchanged.
abbrev pub Stay : List ℤ → List Variant → List Variant → ℕ → Type 0
Stay named old new n =
    (j : ℕ) → ((place : ℕ) → place < n → argument_index named (length old) (pos place) ≢ Some j)
    → slice_get new j ≡ slice_get old j
