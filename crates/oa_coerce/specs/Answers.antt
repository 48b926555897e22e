-- Definitions for contracts and proofs, beside promise/Answers.
use Rattle.std.specs.Prelude.{◌≡◌, Bool, true, false, Result, Ok, Err}
use Rattle.oa_variant.specs.declared.scalar.Scalar.{Scalar}
use Rattle.oa_variant.specs.declared.variant.Variant.{Variant}
use Rattle.oa_coerce.specs.declared.fault.CoerceFault.{CoerceFault}
use Rattle.oa_coerce.specs.declared.fault.CoerceFault.TheVariants.{Memory}

-- The result of a call for a scalar is this one; an error also contains the scalar.
abbrev pub IsScalarAnswer : Result Scalar CoerceFault → Result Scalar (Scalar × CoerceFault) → Type 0
IsScalarAnswer answer (Ok made) = answer ≡ Ok made
IsScalarAnswer answer (Err back) = answer ≡ Err back.1

abbrev pub is_memory : CoerceFault → Bool
is_memory Memory = true
is_memory f = false

-- As `IsScalarAnswer`, for a value; after `Memory` it says nothing.
abbrev pub IsCoercion : Result Variant CoerceFault → Result Variant (Variant × CoerceFault) → Type 0
IsCoercion answer (Ok made) = answer ≡ Ok made
IsCoercion answer (Err back) = is_memory back.1 ≡ false → answer ≡ Err back.1
