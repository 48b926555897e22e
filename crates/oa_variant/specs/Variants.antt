-- Definitions for contracts and proofs, beside promise/Variants.
use Rattle.std.specs.Prelude.{◌<◌, ◌^◌, FitsSigned, All, IsSome}
use Rattle.std.specs.Int.{w32}
use Rattle.oa_model.specs.promise.Types.{sf_type_of}
use Rattle.oa_model.specs.declared.bound.Bound.{Bound}
use Rattle.oa_model.specs.declared.var_type.ValueType.{ValueType}
use Rattle.oa_model.specs.declared.var_type.ValueType.TheVariants as kinds
use Rattle.oa_array.specs.promise.Arrays.{IsArray}
use Rattle.oa_variant.specs.declared.variant.Variant.{Variant}
use Rattle.oa_variant.specs.declared.variant.Variant.TheVariants.{One, Array}
use Rattle.oa_variant.specs.promise.Scalars.{FitsType}
use Rattle.oa_variant.specs.Scalars.{IsScalar}

-- The invariant of bounds (MS-OAUT section 2.2.30.1).
unfoldable pub IsBound : Bound → Type 0
IsBound b = (b.count < 2 ^ 32) × FitsSigned w32 b.lower

-- The invariant of values.
abbrev pub IsVariant : Variant → Type 0
IsVariant (One s) = IsScalar s
IsVariant (Array a) = IsArray FitsType a × All IsScalar a.cells × All IsBound a.bounds

-- The declared type has a zero value.
abbrev pub HasZero : ValueType → Type 0
HasZero (kinds.One t) = Unit {0}
HasZero (kinds.Array t) = IsSome (sf_type_of t)
