-- Scalars: their types, their zero values and their invariant.
use Rattle.std.specs.Prelude.{◌≡◌, ◌⊎◌, ◌||◌, ℕ, Bool, List, Option, None, false, pos}
use denote.Enum.Bare.{sameb}
use Rattle.oa_model.specs.contracts.var_type.VarType.{the_type}
use Rattle.oa_model.specs.declared.var_type.VarType.{VarType}
use Rattle.oa_model.specs.declared.var_type.VarType.TheVariants as types
use Rattle.oa_variant.specs.promise.Decimals.{zero_decimal}
use Rattle.oa_variant.specs.declared.scalar.Scalar.{Scalar}
use Rattle.oa_variant.specs.declared.scalar.Scalar.TheVariants as scalars

-- The type of a scalar.
abbrev pub type_of : Scalar → VarType
type_of scalars.Empty = types.Empty
type_of scalars.Null = types.Null
type_of (scalars.I1 z) = types.I1
type_of (scalars.I2 z) = types.I2
type_of (scalars.I4 z) = types.I4
type_of (scalars.I8 z) = types.I8
type_of (scalars.Int z) = types.Int
type_of (scalars.Ui1 n) = types.Ui1
type_of (scalars.Ui2 n) = types.Ui2
type_of (scalars.Ui4 n) = types.Ui4
type_of (scalars.Ui8 n) = types.Ui8
type_of (scalars.Uint n) = types.Uint
type_of (scalars.Cy z) = types.Cy
type_of (scalars.Bool b) = types.Bool
type_of (scalars.Error n) = types.Error
type_of (scalars.Bstr t) = types.Bstr
type_of (scalars.Decimal d) = types.Decimal

-- The text of the scalar; None if it is of another type, or the null BSTR.
abbrev pub text_of : Scalar → Option (List ℕ)
text_of (scalars.Bstr t) = t
text_of s = None

-- The scalar can be an element of an array of the type: it is of that type, or the type is VARIANT.
abbrev pub FitsType : Scalar → VarType → Type 0
FitsType s t = (t ≡ types.Variant) ⊎ (type_of s ≡ t)

-- As `FitsType`, as a test.
abbrev pub same_type : VarType → VarType → Bool
same_type = sameb the_type

abbrev pub fits_type : Scalar → VarType → Bool
fits_type s t = same_type t types.Variant || same_type (type_of s) t

-- The value of a cell before its first put (this project's choice).
abbrev pub zero_of : VarType → Scalar
zero_of types.Empty = scalars.Empty
zero_of types.Null = scalars.Null
zero_of types.I1 = scalars.I1 (pos 0)
zero_of types.I2 = scalars.I2 (pos 0)
zero_of types.I4 = scalars.I4 (pos 0)
zero_of types.I8 = scalars.I8 (pos 0)
zero_of types.Int = scalars.Int (pos 0)
zero_of types.Ui1 = scalars.Ui1 0
zero_of types.Ui2 = scalars.Ui2 0
zero_of types.Ui4 = scalars.Ui4 0
zero_of types.Ui8 = scalars.Ui8 0
zero_of types.Uint = scalars.Uint 0
zero_of types.Cy = scalars.Cy (pos 0)
zero_of types.Bool = scalars.Bool false
zero_of types.Error = scalars.Error 0
zero_of types.Bstr = scalars.Bstr None
zero_of types.Decimal = scalars.Decimal zero_decimal
zero_of types.Variant = scalars.Empty
