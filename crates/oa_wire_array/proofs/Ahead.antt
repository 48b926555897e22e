-- Elements without pointees need their bytes: if these are not there, nothing is read.
use Rattle.std.proofs.Common.{◌≡◌, ℕ, zero, suc, ◌+◌, ◌*◌, ◌<◌, ◌≤◌, false, not, eqb, leb, List, ◌∷◌, length, Option, Some, None}
use Rattle.std.proofs.Common.{Bool, true, refl, ap, arith}
use Rattle.std.specs.Prelude.{pos}
use Rattle.std.proofs.lemmas.Bool.{leb-false}
use Rattle.std.proofs.lemmas.Option.{none-some}
use Rattle.std.specs.Int.{Width, cast_signed}
use Rattle.oa_ndr.specs.promise.Reading.{Cursor, Decoder, and_then, bind, give, many}
use Rattle.oa_ndr.specs.Reading.{unit_at}
use Rattle.oa_model.specs.declared.var_type.VarType.{VarType}
use Rattle.oa_model.specs.declared.var_type.VarType.TheVariants as types
use Rattle.oa_model.specs.promise.Types.{is_signed_type}
use Rattle.oa_variant.specs.promise.Decimals.{zero_decimal}
use Rattle.oa_variant.specs.promise.Keys.{scalar_of}
use Rattle.oa_wire_array.specs.promise.Scalars.{width_of}
use Rattle.oa_wire_array.proofs.Widths.{number_bytes}
use Rattle.oa_variant.specs.declared.scalar.Scalar.{Scalar}
use Rattle.oa_variant.specs.declared.scalar.Scalar.TheVariants as scalars
use Rattle.oa_wire_array.specs.Reading.{signed_at, truth_at, integer_at, arm_at}
use Rattle.oa_wire_array.specs.ArrayCanon.{plain_width}
use Rattle.oa_wire_text.proofs.Memory.{unit_there}

-- A decoder that returns a value has moved past at least n bytes.
abbrev Takes_bytes : {A : Type 0} → ℕ → Decoder A → Type 0
Takes_bytes {A} n read = (s t : Cursor) (x : A) → read s ≡ Some (x, t) → n + length t.rest ≤ length s.rest

unit_takes : (n : ℕ) → Takes_bytes n (unit_at n)
unit_takes n s t x e = unit_there n s t x e

-- The cursor after a decoder that has returned a value.
abbrev end_of : {A : Type 0} → Cursor → Option (A × Cursor) → Cursor
end_of d None = d
end_of d (Some x) = x.1

-- as does one of a value that is made of it
made_of : {A B : Type 0} (n : ℕ) (read : Decoder A) (make : A → B) → Takes_bytes n read → Takes_bytes n (bind read (λ x. give (make x)))
unfolding bind give
made_of {A} {B} n read make takes s t y e = behind (read s) refl e
  where
    behind : (o : Option (A × Cursor)) → read s ≡ o → and_then o (λ x. give (make x)) ≡ Some (y, t) → n + length t.rest ≤ length s.rest
    behind None r q = absurd (none-some (y, t) q)
    behind (Some x) r q = let last : x.1 ≡ t = ap (end_of s) q in rw (← last) (takes s x.1 x.0 r)

signed_takes : (n : ℕ) (w : Width) → Takes_bytes n (signed_at n w)
unfolding signed_at
signed_takes n w = made_of n (unit_at n) (cast_signed w) (unit_takes n)

number_takes : (signed : Bool) (n : ℕ) → Takes_bytes n (integer_at signed n)
unfolding integer_at
number_takes true n = signed_takes n (width_of n)
number_takes false n = made_of n (unit_at n) pos (unit_takes n)

-- n of them move past n times as many bytes.
behind_first : {A : Type 0} (w n : ℕ) (read : Decoder A) → Takes_bytes w read → Takes_bytes (n * w) (many read n) → Takes_bytes (suc n * w) (many read (suc n))
unfolding many bind give
behind_first {A} w n read takes rest s t xs e = first (read s) refl e
  where
    others : (x : A) (u : Cursor) (o : Option (List A × Cursor)) → many read n u ≡ o → and_then o (λ ys. give (x ∷ ys)) ≡ Some (xs, t)
        → n * w + length t.rest ≤ length u.rest
    others x u None r q = absurd (none-some (xs, t) q)
    others x u (Some ys) r q = let last : ys.1 ≡ t = ap (end_of u) q in rw (← last) (rest u ys.1 ys.0 r)

    first : (o : Option (A × Cursor)) → read s ≡ o → and_then o (λ x. bind (many read n) (λ ys. give (x ∷ ys))) ≡ Some (xs, t)
        → suc n * w + length t.rest ≤ length s.rest
    first None r q = absurd (none-some (xs, t) q)
    first (Some x) r q = omega (arith, takes s x.1 x.0 r, others x.0 x.1 (many read n x.1) refl q)

many_take : {A : Type 0} (w : ℕ) (read : Decoder A) → Takes_bytes w read → (n : ℕ) → Takes_bytes (n * w) (many read n)
unfolding many give
many_take {A} w read takes zero s t xs e = let last : s ≡ t = ap (end_of s) e in omega (arith, ap (λ (c : Cursor). length c.rest) last)
many_take {A} w read takes (suc n) s t xs e = behind_first w n read takes (many_take w read takes n) s t xs e

-- each of the types with a width
arm_takes : (t : VarType) → 0 < plain_width t → Takes_bytes (plain_width t) (arm_at t)
unfolding arm_at truth_at
arm_takes types.Bool some = made_of 2 (bind (unit_at 2) (λ x. give (not (eqb x 0)))) scalars.Bool (made_of 2 (unit_at 2) (λ x. not (eqb x 0)) (unit_takes 2))
arm_takes types.Empty some = absurd (omega (arith, some))
arm_takes types.Null some = absurd (omega (arith, some))
arm_takes types.Error some = absurd (omega (arith, some))
arm_takes types.Decimal some = absurd (omega (arith, some))
arm_takes types.Bstr some = absurd (omega (arith, some))
arm_takes types.Variant some = absurd (omega (arith, some))
arm_takes t some = made_of (number_bytes t) (integer_at (is_signed_type t) (number_bytes t)) (λ z. scalar_of t z None zero_decimal)
    (number_takes (is_signed_type t) (number_bytes t))

-- If there are fewer bytes than the elements need, the elements are not read.
pub no_cells : (t : VarType) (n : ℕ) (s : Cursor) → leb (n * plain_width t) (length s.rest) ≡ false → many (arm_at t) n s ≡ None
no_cells t n s few = tried (plain_width t) refl
  where
    short : length s.rest < n * plain_width t
    short = leb-false _ _ few

    tried : (w : ℕ) → plain_width t ≡ w → many (arm_at t) n s ≡ None
    tried zero e = absurd (omega (arith, short, ap (λ (k : ℕ). n * k) e))
    tried (suc w) e = outcome (many (arm_at t) n s) refl
      where
        outcome : (o : Option (List Scalar × Cursor)) → many (arm_at t) n s ≡ o → o ≡ None
        outcome None r = refl
        outcome (Some x) r = let there = many_take (plain_width t) (arm_at t) (arm_takes t (omega (arith, e))) n s x.1 x.0 r in
            absurd (omega (arith, there, short))
