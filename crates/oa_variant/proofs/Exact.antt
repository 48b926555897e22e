-- Scalars that compare as equal in the order of keys are the same.
use Rattle.std.specs.Prelude.{◌≡◌, ℕ, ℤ, true, false, List, Option, Some, None}
use Rattle.std.proofs.Common.{refl, sym, ap, ◌∙◌}
use Rattle.std.proofs.lemmas.Bool.{true≢false}
use Rattle.std.specs.Ordering.{nat_cmp, int_cmp, bool_cmp, ordering_then, is_lt, is_gt}
use Rattle.std.specs.declared.cmp.Ordering.{Ordering}
use Rattle.std.specs.declared.cmp.Ordering.TheVariants.{Less, Equal, Greater}
use Rattle.std.proofs.lemmas.Map.Lookups.{CmpEqualImpliesEq, exact_unsigned, exact_signed, exact_bytes}
use Rattle.oa_model.specs.declared.var_type.VarType.{VarType}
use Rattle.oa_model.specs.promise.Types.{type_at}
use Rattle.oa_bstr.specs.promise.Text.{text_cmp}
use Rattle.oa_variant.specs.promise.Decimals.{DecimalValue, decimal_cmp}
use Rattle.oa_variant.specs.promise.Scalars.{text_of}
use Rattle.oa_variant.specs.promise.Keys.{key_number, decimal_of, scalar_of, scalar_again, key_type, scalar_cmp}
use Rattle.oa_variant.specs.declared.scalar.Scalar.{Scalar}
use Rattle.oa_variant.specs.declared.scalar.Scalar.TheVariants as scalars

both_equal : (a b : Ordering) → ordering_then a b ≡ Equal → (a ≡ Equal) × (b ≡ Equal)
both_equal Less b e = absurd (true≢false (ap is_lt e))
both_equal Equal b e = (refl, e)
both_equal Greater b e = absurd (true≢false (ap is_gt e))

exact_truths : CmpEqualImpliesEq bool_cmp
exact_truths false false e = refl
exact_truths false true e = absurd (true≢false (ap is_lt e))
exact_truths true false e = absurd (true≢false (ap is_gt e))
exact_truths true true e = refl

exact_texts : CmpEqualImpliesEq text_cmp
exact_texts None None e = refl
exact_texts None (Some y) e = absurd (true≢false (ap is_lt e))
exact_texts (Some x) None e = absurd (true≢false (ap is_gt e))
exact_texts (Some x) (Some y) e = ap Some (exact_bytes x y e)

exact_decimals : CmpEqualImpliesEq decimal_cmp
exact_decimals c d e = let h = both_equal (bool_cmp c.negative d.negative) (ordering_then (nat_cmp c.scale d.scale) (nat_cmp c.magnitude d.magnitude)) e in
    let k = both_equal (nat_cmp c.scale d.scale) (nat_cmp c.magnitude d.magnitude) h.1 in
    let n = exact_truths c.negative d.negative h.0 in
    let s = exact_unsigned c.scale d.scale k.0 in
    let m = exact_unsigned c.magnitude d.magnitude k.1 in
    λ i. record { negative = n i; scale = s i; magnitude = m i }

-- a scalar from the parts that its place goes by
abbrev made : Option VarType → ℤ → Option (List ℕ) → DecimalValue → Scalar
made None z t d = scalars.Empty
made (Some k) z t d = scalar_of k z t d

made_back : (s : Scalar) → made (type_at (key_type s)) (key_number s) (text_of s) (decimal_of s) ≡ s
made_back (scalars.Bool b) = scalar_again (scalars.Bool b)
made_back s = scalar_again s

pub exact_scalars : CmpEqualImpliesEq scalar_cmp
exact_scalars a b e = let h =
    both_equal (nat_cmp (key_type a) (key_type b))
    (ordering_then (int_cmp (key_number a) (key_number b)) (ordering_then (text_cmp (text_of a) (text_of b)) (decimal_cmp (decimal_of a) (decimal_of b)))) e in
    let k = both_equal (int_cmp (key_number a) (key_number b)) (ordering_then (text_cmp (text_of a) (text_of b)) (decimal_cmp (decimal_of a) (decimal_of b)))
    h.1 in
    let l = both_equal (text_cmp (text_of a) (text_of b)) (decimal_cmp (decimal_of a) (decimal_of b)) k.1 in
    let n = exact_unsigned (key_type a) (key_type b) h.0 in
    let z = exact_signed (key_number a) (key_number b) k.0 in
    let t = exact_texts (text_of a) (text_of b) l.0 in
    let d = exact_decimals (decimal_of a) (decimal_of b) l.1 in
    sym (made_back a) ∙ ((λ i. made (type_at (n i)) (z i) (t i) (d i)) ∙ made_back b)
