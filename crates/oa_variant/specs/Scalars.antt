-- Definitions for contracts and proofs, beside promise/Scalars.
use Rattle.std.specs.Prelude.{◌≤◌, ◌<◌, ◌^◌, length, FitsSigned}
use Rattle.std.proofs.Common.{inl, inr, refl}
use Rattle.std.specs.Int.{w8, w16, w32, w64}
use Rattle.oa_model.specs.declared.var_type.VarType.{VarType}
use Rattle.oa_model.specs.declared.var_type.VarType.TheVariants as types
use Rattle.oa_model.specs.promise.Limits.{max_text_bytes}
use Rattle.oa_bstr.specs.promise.Text.{bytes_of}
use Rattle.oa_variant.specs.declared.scalar.Scalar.{Scalar}
use Rattle.oa_variant.specs.declared.scalar.Scalar.TheVariants as scalars
use Rattle.oa_variant.specs.promise.Scalars.{FitsType, zero_of}

-- The zero value of a type fits an element of that type.
pub zero_fits : (t : VarType) → FitsType (zero_of t) t
zero_fits types.Variant = inl refl
zero_fits t = inr refl

-- The invariant of scalars (MS-OAUT sections 2.2.7, 2.2.24 and 2.2.26; the limit of texts is this project's choice).
abbrev pub IsScalar : Scalar → Type 0
IsScalar scalars.Empty = Unit {0}
IsScalar scalars.Null = Unit {0}
IsScalar (scalars.I1 z) = FitsSigned w8 z
IsScalar (scalars.I2 z) = FitsSigned w16 z
IsScalar (scalars.I4 z) = FitsSigned w32 z
IsScalar (scalars.I8 z) = FitsSigned w64 z
IsScalar (scalars.Int z) = FitsSigned w32 z
IsScalar (scalars.Ui1 n) = n < 2 ^ 8
IsScalar (scalars.Ui2 n) = n < 2 ^ 16
IsScalar (scalars.Ui4 n) = n < 2 ^ 32
IsScalar (scalars.Ui8 n) = n < 2 ^ 64
IsScalar (scalars.Uint n) = n < 2 ^ 32
IsScalar (scalars.Cy z) = FitsSigned w64 z
IsScalar (scalars.Bool b) = Unit {0}
IsScalar (scalars.Error n) = n < 2 ^ 32
IsScalar (scalars.Bstr t) = length (bytes_of t) ≤ max_text_bytes
IsScalar (scalars.Decimal d) = (d.scale ≤ 28) × (d.magnitude < 2 ^ 96)
