-- Decoders as functions on lists, which agree with the forms (the theorems are in proofs/ScalarLaws).
use Rattle.std.specs.Prelude.{ℕ, ℤ, ◌+◌, ◌*◌, ◌^◌, ◌==◌, nat_le, pos, Bool, true, false, not, Option, Some, None}
use Rattle.std.specs.Option.{unwrap_or}
use Rattle.std.specs.Int.{Width, cast_signed}
use Rattle.oa_ndr.specs.promise.Reading.{Decoder, ◌>>=◌, give, fail}
use Rattle.oa_ndr.specs.Reading.{choose, align_at, unit_at}
use Rattle.oa_model.specs.promise.Types.{type_at, is_signed_type, element_size_of}
use Rattle.oa_model.specs.declared.var_type.VarType.{VarType}
use Rattle.oa_model.specs.declared.var_type.VarType.TheVariants as types
use Rattle.oa_variant.specs.promise.Decimals.{DecimalValue, zero_decimal}
use Rattle.oa_variant.specs.promise.Keys.{scalar_of}
use Rattle.oa_variant.specs.declared.scalar.Scalar.{Scalar}
use Rattle.oa_variant.specs.declared.scalar.Scalar.TheVariants as scalars
use Rattle.oa_wire_text.specs.Reading.{bstr_at}
use Rattle.oa_wire_array.specs.promise.Scalars.{width_of}

-- Reads a signed number of the width w, in n bytes.
unfoldable pub signed_at : ℕ → Width → Decoder ℤ
signed_at n w = do
  x ← unit_at n
  give (cast_signed w x)

-- Reads a VARIANT_BOOL.
unfoldable pub truth_at : Decoder Bool
truth_at = do
  x ← unit_at 2
  give (not (x == 0))

-- Reads the sign of a DECIMAL.
unfoldable pub sign_at : Decoder Bool
sign_at = do
  sign ← unit_at 1
  choose (sign == 0) (give false) (choose (sign == 128) (give true) fail)

abbrev pub the_decimal : Bool → ℕ → ℕ → ℕ → DecimalValue
the_decimal negative scale high low = record { negative = negative; scale = scale; magnitude = high * 2 ^ 64 + low }

-- Reads a DECIMAL.
unfoldable pub decimal_at : Decoder DecimalValue
decimal_at = do
  _ ← align_at 8
  _ ← unit_at 2
  scale ← unit_at 1
  negative ← sign_at
  high ← unit_at 4
  low ← unit_at 8
  choose (nat_le scale 28) (give (the_decimal negative scale high low)) fail

-- Reads a number in n bytes, signed or not.
unfoldable pub integer_at : Bool → ℕ → Decoder ℤ
integer_at true n = signed_at n (width_of n)
integer_at false n = do
  x ← unit_at n
  give (pos x)

-- Reads the arm of a type.
unfoldable pub arm_at : VarType → Decoder Scalar
arm_at types.Empty = give scalars.Empty
arm_at types.Null = give scalars.Null
arm_at types.Bool = do
  b ← truth_at
  give (scalars.Bool b)
arm_at types.Bstr = do
  t ← bstr_at
  give (scalars.Bstr t)
arm_at types.Decimal = do
  d ← decimal_at
  give (scalars.Decimal d)
arm_at types.Variant = fail
arm_at t = do
  z ← integer_at (is_signed_type t) (unwrap_or (element_size_of t) 4)
  give (scalar_of t z None zero_decimal)

-- Reads the arm of a type; fails if there is none.
unfoldable pub arm_of : Option VarType → Decoder Scalar
arm_of None = fail
arm_of (Some t) = arm_at t

-- Reads the union of a scalar, after its vt.
unfoldable pub union_at : ℕ → Decoder Scalar
union_at vt = do
  discriminant ← unit_at 4
  choose (discriminant == vt) (arm_of (type_at vt)) fail

-- Reads a scalar.
unfoldable pub scalar_at : Decoder Scalar
scalar_at = do
  _ ← align_at 8
  _ ← unit_at 4
  _ ← unit_at 4
  vt ← unit_at 2
  _ ← unit_at 2
  _ ← unit_at 2
  _ ← unit_at 2
  union_at vt
