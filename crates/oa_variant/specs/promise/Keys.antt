-- The order of scalars as keys of cells (this project's choice): by the number of the type; then integers, CY and ERROR
-- by value, false before true, DECIMAL by sign, scale and magnitude, and the null BSTR before the texts, which are
-- ordered by their bytes.
use Rattle.std.specs.Prelude.{◌≡◌, ℕ, ℤ, zero, pos, unsigned_abs, Bool, true, false, List, Option}
use Rattle.std.proofs.Common.{refl, subst}
use Rattle.std.specs.Ordering.{nat_cmp, int_cmp, on, then_cmp}
use Rattle.std.specs.declared.cmp.Ordering.{Ordering}
use Rattle.oa_model.specs.promise.Types.{vt_of}
use Rattle.oa_model.specs.declared.var_type.VarType.{VarType}
use Rattle.oa_model.specs.declared.var_type.VarType.TheVariants as types
use Rattle.oa_bstr.specs.promise.Text.{text_cmp}
use Rattle.oa_variant.specs.promise.Decimals.{DecimalValue, zero_decimal, decimal_cmp}
use Rattle.oa_variant.specs.promise.Scalars.{type_of, text_of}
use Rattle.oa_variant.specs.declared.scalar.Scalar.{Scalar}
use Rattle.oa_variant.specs.declared.scalar.Scalar.TheVariants as scalars

-- The number of the scalar, with 0 for false and 1 for true; 0 if it has none.
abbrev pub key_number : Scalar → ℤ
key_number (scalars.I1 z) = z
key_number (scalars.I2 z) = z
key_number (scalars.I4 z) = z
key_number (scalars.I8 z) = z
key_number (scalars.Int z) = z
key_number (scalars.Ui1 n) = pos n
key_number (scalars.Ui2 n) = pos n
key_number (scalars.Ui4 n) = pos n
key_number (scalars.Ui8 n) = pos n
key_number (scalars.Uint n) = pos n
key_number (scalars.Cy z) = z
key_number (scalars.Bool false) = pos 0
key_number (scalars.Bool true) = pos 1
key_number (scalars.Error n) = pos n
key_number s = pos 0

-- The magnitude of this number, and whether it differs from 0.
abbrev pub unsigned_in : Scalar → ℕ
unsigned_in s = unsigned_abs (key_number s)

abbrev pub not_zero : ℤ → Bool
not_zero (pos zero) = false
not_zero z = true

abbrev pub truth_in : Scalar → Bool
truth_in s = not_zero (key_number s)

-- The DECIMAL of the scalar; zero if it is of another type.
abbrev pub decimal_of : Scalar → DecimalValue
decimal_of (scalars.Decimal d) = d
decimal_of s = zero_decimal

-- The scalar of a type with this number, text or DECIMAL; EMPTY for VARIANT.
abbrev pub scalar_of : VarType → ℤ → Option (List ℕ) → DecimalValue → Scalar
scalar_of types.Null z t d = scalars.Null
scalar_of types.I1 z t d = scalars.I1 z
scalar_of types.I2 z t d = scalars.I2 z
scalar_of types.I4 z t d = scalars.I4 z
scalar_of types.I8 z t d = scalars.I8 z
scalar_of types.Int z t d = scalars.Int z
scalar_of types.Ui1 z t d = scalars.Ui1 (unsigned_abs z)
scalar_of types.Ui2 z t d = scalars.Ui2 (unsigned_abs z)
scalar_of types.Ui4 z t d = scalars.Ui4 (unsigned_abs z)
scalar_of types.Ui8 z t d = scalars.Ui8 (unsigned_abs z)
scalar_of types.Uint z t d = scalars.Uint (unsigned_abs z)
scalar_of types.Cy z t d = scalars.Cy z
scalar_of types.Bool z t d = scalars.Bool (not_zero z)
scalar_of types.Error z t d = scalars.Error (unsigned_abs z)
scalar_of types.Bstr z t d = scalars.Bstr t
scalar_of types.Decimal z t d = scalars.Decimal d
scalar_of k z t d = scalars.Empty

pub scalar_again : (s : Scalar) → scalar_of (type_of s) (key_number s) (text_of s) (decimal_of s) ≡ s
scalar_again (scalars.Bool false) = refl
scalar_again (scalars.Bool true) = refl
scalar_again s = refl

pub is_made : (t : VarType) (s : Scalar) → type_of s ≡ t
    → scalar_of t (key_number s) (text_of s) (decimal_of s) ≡ s
is_made t s e =
    subst (λ (k : VarType). scalar_of k (key_number s) (text_of s) (decimal_of s) ≡ s) e (scalar_again s)

-- The number of the scalar's type.
abbrev pub key_type : Scalar → ℕ
key_type s = vt_of (type_of s)

-- The order of scalars as keys: by type, number, text and DECIMAL.
abbrev pub scalar_cmp : Scalar → Scalar → Ordering
scalar_cmp =
    then_cmp (on key_type nat_cmp)
    (then_cmp (on key_number int_cmp) (then_cmp (on text_of text_cmp) (on decimal_of decimal_cmp)))
