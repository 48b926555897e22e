-- The images of values: the number of the type, which has VT_ARRAY for an array, and the scalar's content or the array
-- (this project's choice).
use Rattle.std.proofs.Common.{◌≡◌, ℕ, ◌+◌, ◌-◌, ◌<◌, ◌≤◌, ◌^◌, Bool, true, false, cond, leb, [], Option, Some, None}
use Rattle.std.proofs.Common.{refl, sym, ap, ◌∙◌, arith}
use Rattle.std.specs.Prelude.{nat_le, if◌then◌else◌}
use Rattle.std.proofs.lemmas.Bool.{leb-true, le-leb, lt-leb}
use Rattle.oa_model.specs.promise.Invoke.{vt_array}
use Rattle.oa_model.specs.declared.var_type.VarType.{VarType}
use Rattle.oa_model.specs.declared.var_type.VarType.TheVariants as types
use Rattle.oa_model.specs.declared.var_type.ValueType.{ValueType}
use Rattle.oa_model.specs.declared.var_type.ValueType.TheVariants as kinds
use Rattle.oa_model.specs.promise.Types.{vt_of, type_at, vt_of_value}
use Rattle.oa_array.specs.promise.Arrays.{ArrayValue}
use Rattle.oa_variant.specs.declared.scalar.Scalar.{Scalar}
use Rattle.oa_variant.specs.declared.scalar.Scalar.TheVariants as scalars
use Rattle.oa_variant.specs.declared.variant.Variant.{Variant}
use Rattle.oa_variant.specs.declared.variant.Variant.TheVariants as variants
use Rattle.oa_variant.specs.promise.Variants.{value_type_of}
use Rattle.oa_formats.specs.promise.Formats.{Format, same_content, made_where, coded, case, tagged}
use Rattle.oa_formats.specs.promise.Numbers.{u16}
use Rattle.oa_formats.specs.promise.TypeNumbers.{type_there, type_here, vt_low}
use Rattle.oa_formats.specs.promise.Values.{of_type, type_agrees}
use Rattle.oa_formats.specs.promise.Arrays.{array_format}

-- the type of a value with a number
abbrev pub one_type_at : Option VarType → Option ValueType
one_type_at None = None
one_type_at (Some t) = Some (kinds.One t)

abbrev pub array_type_at : Option VarType → Option ValueType
array_type_at None = None
array_type_at (Some t) = Some (kinds.Array t)

abbrev pub kind_at : ℕ → Option ValueType
kind_at n = if nat_le vt_array n then array_type_at (type_at (n - vt_array)) else one_type_at (type_at n)

pub one_there : (n : ℕ) (o : Option VarType) (k : ValueType) → type_at n ≡ o → one_type_at o ≡ Some k → vt_of_value k
    ≡ n
one_there n None k is e = absurd cc
one_there n (Some t) k is e = sym (ap vt_of_value (same_content (kinds.One t) k e)) ∙ type_there n t is

pub array_there : (n : ℕ) (o : Option VarType) (k : ValueType) → vt_array ≤ n → type_at (n - vt_array) ≡ o
    → array_type_at o ≡ Some k → vt_of_value k ≡ n
array_there n None k le is e = absurd cc
array_there n (Some t) k le is e =
    let v = type_there (n - vt_array) t is in sym (ap vt_of_value (same_content (kinds.Array t) k e))
    ∙ omega (arith, le, v)

pub kind_there : (b : Bool) (n : ℕ) (k : ValueType) → (b ≡ true → vt_array ≤ n)
    → cond b (array_type_at (type_at (n - vt_array))) (one_type_at (type_at n)) ≡ Some k → vt_of_value k ≡ n
kind_there true n k le e = array_there n (type_at (n - vt_array)) k (le refl) refl e
kind_there false n k le e = one_there n (type_at n) k refl e

pub kind_here : (k : ValueType) → (vt_of_value k < 2 ^ 16) × (kind_at (vt_of_value k) ≡ Some k)
kind_here (kinds.One t) =
    let low : leb vt_array (vt_of t) ≡ false = lt-leb _ _ (vt_low t) in
    (omega (arith, vt_low t), rw (low, type_here t) refl)
kind_here (kinds.Array t) =
    let high : leb vt_array (vt_of t + vt_array) ≡ true = le-leb _ _ (omega arith) in
    let back : vt_of t + vt_array - vt_array ≡ vt_of t = omega arith in
    (omega (arith, vt_low t), rw (high, back, type_here t) refl)

unfoldable pub kind : Format ValueType
unfolding u16 made_where
kind =
    coded (λ k. Unit {0}) kind_at vt_of_value u16 (λ n k is e. (tt, kind_there (leb vt_array n) n k (leb-true _ _) e))
    (λ k is. kind_here k)

-- the scalar in a value; for an array any
abbrev pub scalar_in : Variant → Scalar
scalar_in (variants.One s) = s
scalar_in v = scalars.Empty

abbrev pub array_or_empty : Variant → ArrayValue Scalar
array_or_empty (variants.Array a) = a
array_or_empty v = record { elem = types.Empty; bounds = []; cells = []; locks = 0 }

pub is_one : (t : VarType) (v : Variant) → value_type_of v ≡ kinds.One t → variants.One (scalar_in v) ≡ v
is_one t (variants.One s) e = refl
is_one t v e = absurd cc

pub is_array : (t : VarType) (v : Variant) → value_type_of v ≡ kinds.Array t → variants.Array (array_or_empty v) ≡ v
is_array t (variants.Array a) e = refl
is_array t v e = absurd cc

pub array_agrees : (t : VarType) (a : ArrayValue Scalar) → (array_format t).Is a
    → value_type_of (variants.Array a) ≡ kinds.Array t
unfolding array_format made_where
array_agrees t a is = ap (λ (t : VarType). kinds.Array t) is.0

unfoldable pub content : ValueType → Format Variant
content (kinds.One t) = case value_type_of (kinds.One t) (λ s. variants.One s) scalar_in (of_type t)
    (λ s is. ap (λ (t : VarType). kinds.One t) (type_agrees t s is)) (λ s. refl) (is_one t)
content (kinds.Array t) =
    case value_type_of (kinds.Array t) (λ a. variants.Array a) array_or_empty (array_format t) (array_agrees t)
    (λ a. refl)
    (is_array t)

pub content_agrees : (k : ValueType) (v : Variant) → (content k).Is v → value_type_of v ≡ k
unfolding content case
content_agrees (kinds.One t) v h = h.0
content_agrees (kinds.Array t) v h = h.0

unfoldable pub value : Format Variant
value = tagged value_type_of kind content content_agrees
