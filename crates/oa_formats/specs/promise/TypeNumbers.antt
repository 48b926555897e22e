-- Types and their numbers, both ways.
use Rattle.std.proofs.Common.{◌≡◌, ℕ, ◌<◌, Bool, true, false, cond, eqb, Option, Some, refl, sym, ap, ◌∙◌, arith}
use Rattle.std.proofs.lemmas.Bool.{eqb-true}
use Rattle.oa_model.specs.promise.Types.{vt_of, type_at}
use Rattle.oa_model.specs.promise.Invoke.{vt_array}
use Rattle.oa_model.specs.declared.var_type.VarType.{VarType}
use Rattle.oa_model.specs.declared.var_type.VarType.TheVariants as types
use Rattle.oa_formats.specs.promise.Formats.{same_content}

pub type_here : (t : VarType) → type_at (vt_of t) ≡ Some t
type_here types.Empty = refl
type_here t = refl

-- the test of one number
pub tested : (b : Bool) (n m : ℕ) (j : VarType) (others : Option VarType) (t : VarType) → vt_of j ≡ m
    → (b ≡ true → n ≡ m) → cond b (Some j) others ≡ Some t → (others ≡ Some t → vt_of t ≡ n) → vt_of t ≡ n
tested true n m j others t is same e next = ap vt_of (sym (same_content j t e)) ∙ is ∙ sym (same refl)
tested false n m j others t is same e next = next e

pub type_there : (n : ℕ) (t : VarType) → type_at n ≡ Some t → vt_of t ≡ n
type_there n t e =
    tested (eqb n 0) n 0 types.Empty _ t refl (eqb-true n 0) e (λ e.
    tested (eqb n 1) n 1 types.Null _ t refl (eqb-true n 1) e (λ e.
    tested (eqb n 2) n 2 types.I2 _ t refl (eqb-true n 2) e (λ e.
    tested (eqb n 3) n 3 types.I4 _ t refl (eqb-true n 3) e (λ e.
    tested (eqb n 6) n 6 types.Cy _ t refl (eqb-true n 6) e (λ e.
    tested (eqb n 8) n 8 types.Bstr _ t refl (eqb-true n 8) e (λ e.
    tested (eqb n 10) n 10 types.Error _ t refl (eqb-true n 10) e (λ e.
    tested (eqb n 11) n 11 types.Bool _ t refl (eqb-true n 11) e (λ e.
    tested (eqb n 12) n 12 types.Variant _ t refl (eqb-true n 12) e (λ e.
    tested (eqb n 14) n 14 types.Decimal _ t refl (eqb-true n 14) e (λ e.
    tested (eqb n 16) n 16 types.I1 _ t refl (eqb-true n 16) e (λ e.
    tested (eqb n 17) n 17 types.Ui1 _ t refl (eqb-true n 17) e (λ e.
    tested (eqb n 18) n 18 types.Ui2 _ t refl (eqb-true n 18) e (λ e.
    tested (eqb n 19) n 19 types.Ui4 _ t refl (eqb-true n 19) e (λ e.
    tested (eqb n 20) n 20 types.I8 _ t refl (eqb-true n 20) e (λ e.
    tested (eqb n 21) n 21 types.Ui8 _ t refl (eqb-true n 21) e (λ e.
    tested (eqb n 22) n 22 types.Int _ t refl (eqb-true n 22) e (λ e.
    tested (eqb n 23) n 23 types.Uint _ t refl (eqb-true n 23) e (λ e.
    absurd cc))))))))))))))))))

-- the number of a type is below VT_ARRAY
pub vt_low : (t : VarType) → vt_of t < vt_array
vt_low types.Empty = omega arith
vt_low t = omega arith
