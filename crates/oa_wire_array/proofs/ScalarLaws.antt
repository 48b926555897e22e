-- Reading a scalar, and a whole field, reads its form.
use Rattle.std.proofs.Common.{◌≡◌, ℕ, ◌+◌, ◌*◌, ◌^◌, Bool, true, false, not, eqb, leb, cond, List, ◌++◌, length, Option, Some, None, refl}
use Rattle.std.proofs.Common.{sym, ap, subst, ◌∙◌, arith}
use Rattle.std.proofs.lemmas.Bool.{eqb-true, eqb-false, leb-true, leb-false}
use Rattle.std.specs.Prelude.{ℤ, pos, unsigned_abs}
use Rattle.std.specs.Int.{Width, cast_signed}
use Rattle.oa_ndr.specs.promise.Forms.{unit}
use Rattle.oa_ndr.specs.promise.Reading.{Cursor, at}
use Rattle.oa_ndr.proofs.Laws.{Takes, Reads, Always, give_reads, fail_reads, choose_reads, unit_reads, bind_reads, with_reads, ignored_then}
use Rattle.oa_ndr.proofs.Laws.{align_then, same_values, made_reads, made_takes, made_again, nothing_takes, nothing_again}
use Rattle.oa_model.specs.promise.Types.{vt_of, type_at, is_signed_type}
use Rattle.oa_model.specs.declared.var_type.VarType.{VarType}
use Rattle.oa_model.specs.declared.var_type.VarType.TheVariants as types
use Rattle.oa_variant.specs.promise.Decimals.{DecimalValue, zero_decimal}
use Rattle.oa_variant.specs.promise.Keys.{key_number, scalar_of}
use Rattle.oa_variant.specs.promise.Scalars.{type_of}
use Rattle.oa_variant.specs.declared.scalar.Scalar.{Scalar}
use Rattle.oa_variant.specs.declared.scalar.Scalar.TheVariants as scalars
use Rattle.oa_wire_array.specs.promise.Scalars.{signed_unit, truth, sign_of, sign, decimal, width_of, integer, arm}
use Rattle.oa_wire_array.specs.promise.Scalars.{scalar_vt, union, scalar}
use Rattle.oa_wire_array.specs.Reading.{signed_at, truth_at, sign_at, the_decimal, decimal_at, integer_at, arm_at, arm_of, union_at, scalar_at}
use Rattle.oa_wire_text.proofs.TextLaws.{bstr_reads}
use Rattle.oa_wire_array.proofs.Widths.{number_bytes}

pub signed_reads : (n : ℕ) (w : Width) → Reads Always (signed_unit n w) (signed_at n w)
unfolding signed_at
signed_reads n w = with_reads (unit_reads n) (λ c a p text _ _. tt) (λ x _. give_reads (cast_signed w x) tt refl (λ c _ e. e))

truth_reads : Reads Always truth truth_at
unfolding truth_at
truth_reads = with_reads (unit_reads 2) (λ c a p text _ _. tt) (λ x _. give_reads (not (eqb x 0)) tt refl (λ c _ e. e))

sign_false : (b : Bool) → sign_of b ≡ 0 → b ≡ false
sign_false false e = refl
sign_false true e = absurd cc

sign_true : (b : Bool) → sign_of b ≡ 128 → b ≡ true
sign_true true e = refl
sign_true false e = absurd cc

no_sign : (b : Bool) (x : ℕ) → eqb x 0 ≡ false → eqb x 128 ≡ false → x ≡ sign_of b → ⊥
no_sign false x p q e = eqb-false x 0 p e
no_sign true x p q e = eqb-false x 128 q e

sign_reads : Reads Always sign sign_at
unfolding sign_at
sign_reads = with_reads (unit_reads 1) (λ c a p text _ _. tt) (λ x _.
    choose_reads (eqb x 0)
    (λ zero. give_reads false tt (eqb-true x 0 zero) (λ b _ e. sign_false b (sym e ∙ eqb-true x 0 zero)))
    (λ not_zero. choose_reads (eqb x 128)
    (λ set. give_reads true tt (eqb-true x 128 set) (λ b _ e. sign_true b (sym e ∙ eqb-true x 128 set)))
    (λ not_set. fail_reads (λ b p text _ form. no_sign b x not_zero not_set form.fact))))

decimal_is : (d : DecimalValue) (negative : Bool) (scale high low : ℕ) → d.negative ≡ negative → d.scale ≡ scale → d.magnitude ≡ high * 2 ^ 64 + low
    → d ≡ the_decimal negative scale high low
decimal_is d negative scale high low a b c = rw (← a, ← b, ← c) refl

decimal_reads : Reads Always decimal decimal_at
unfolding decimal_at
decimal_reads =
    align_then 8 (ignored_then 2 (bind_reads (unit 1) (λ (d : DecimalValue). d.scale) (unit_reads 1) (λ _ _. tt) (λ scale _.
    bind_reads sign (λ (d : DecimalValue). d.negative) sign_reads (λ _ _. tt) (λ negative _.
    with_reads (unit_reads 4) (λ c a p text _ _. tt) (λ high _. with_reads (unit_reads 8) (λ c a p text _ _. tt) (λ low _.
    choose_reads (leb scale 28)
    (λ small. give_reads (the_decimal negative scale high low) ((tt, refl), refl) (leb-true _ _ small, refl)
    (λ d h q. decimal_is d negative scale high low h.1 h.0.1 q.1))
    (λ large. fail_reads (λ d p text h form. omega (arith, leb-false _ _ large, form.fact.0, h.0.1)))))))))

-- ---- the arms

-- A number that a form can have: one that is unsigned is not negative.
abbrev IsNumber : Bool → ℤ → Type 0
IsNumber true z = z ≡ z
IsNumber false z = z ≡ pos (unsigned_abs z)

number_reads : (signed : Bool) (n : ℕ) → Reads (IsNumber signed) (integer signed n) (integer_at signed n)
unfolding integer_at
number_reads true n = same_values (signed_reads n (width_of n)) (λ z _. refl) (λ z _. tt)
number_reads false n = made_reads pos (unit_reads n) (λ x _. refl) (λ z p text h _. (unsigned_abs z, tt, sym h))

no_variant : (v : Scalar) → type_of v ≡ types.Variant → ⊥
no_variant scalars.Empty e = absurd cc
no_variant v e = absurd cc

arm_takes : (t : VarType) (p : ℕ) (bytes : List ℕ) (v : Scalar) (end : Cursor) → arm_at t (at p bytes) ≡ Some (v, end) → (type_of v ≡ t)
    × Takes (arm v) p bytes end
unfolding arm_at
arm_takes types.Empty = nothing_takes (λ v. type_of v ≡ types.Empty) arm scalars.Empty refl (λ p. refl)
arm_takes types.Null = nothing_takes (λ v. type_of v ≡ types.Null) arm scalars.Null refl (λ p. refl)
arm_takes types.Bool = made_takes (λ v. type_of v ≡ types.Bool) arm scalars.Bool truth_reads (λ _ _. refl)
arm_takes types.Bstr = made_takes (λ v. type_of v ≡ types.Bstr) arm scalars.Bstr bstr_reads (λ _ _. refl)
arm_takes types.Decimal = made_takes (λ v. type_of v ≡ types.Decimal) arm scalars.Decimal decimal_reads (λ _ _. refl)
arm_takes types.Variant = (fail_reads {P = λ v. type_of v ≡ types.Variant} {F = arm} (λ v p text h _. no_variant v h)).takes
arm_takes t = made_takes (λ v. type_of v ≡ t) arm (λ z. scalar_of t z None zero_decimal) (number_reads (is_signed_type t) (number_bytes t)) (λ _ _. refl)

arm_again : (p : ℕ) (text rest : List ℕ) (v : Scalar) → arm v p text → arm_at (type_of v) (at p (text ++ rest)) ≡ Some (v, at (p + length text) rest)
unfolding arm_at
arm_again p text rest scalars.Empty form = nothing_again scalars.Empty p text rest form
arm_again p text rest scalars.Null form = nothing_again scalars.Null p text rest form
arm_again p text rest (scalars.Bool x) form = made_again arm scalars.Bool truth_reads p text rest x tt form
arm_again p text rest (scalars.Bstr x) form = made_again arm scalars.Bstr bstr_reads p text rest x tt form
arm_again p text rest (scalars.Decimal x) form = made_again arm scalars.Decimal decimal_reads p text rest x tt form
arm_again p text rest v form =
    made_again arm (λ z. scalar_of (type_of v) z None zero_decimal) (number_reads (is_signed_type (type_of v)) (number_bytes (type_of v))) p text rest
    (key_number v) refl form

pub arm_reads : (t : VarType) → Reads (λ v. type_of v ≡ t) arm (arm_at t)
arm_reads t = record {
  takes = arm_takes t;
  again = λ p text rest v h form. subst (λ (j : VarType). arm_at j (at p (text ++ rest)) ≡ Some (v, at (p + length text) rest)) h
      (arm_again p text rest v form);
}

pub type_at_vt : (t : VarType) → type_at (vt_of t) ≡ Some t
type_at_vt types.Empty = refl
type_at_vt t = refl

abbrev some_type : VarType → Option VarType
some_type t = Some t

pub same_type : (t j : VarType) → some_type t ≡ Some j → t ≡ j
same_type t j e = cc

-- the test of one number
tried : (vt n : ℕ) (j : VarType) (other : Option VarType) (t : VarType) → vt_of j ≡ n → cond (eqb vt n) (Some j) other ≡ Some t
    → (other ≡ Some t → vt_of t ≡ vt) → vt_of t ≡ vt
tried vt n j other t is e next = by_test (eqb vt n) refl e
  where
    by_test : (b : Bool) → eqb vt n ≡ b → cond b (Some j) other ≡ Some t → vt_of t ≡ vt
    by_test true h e = ap vt_of (sym (same_type j t e)) ∙ is ∙ sym (eqb-true _ _ h)
    by_test false h e = next e

pub vt_from_type_at : (vt : ℕ) (t : VarType) → type_at vt ≡ Some t → vt_of t ≡ vt
vt_from_type_at vt t e =
    tried vt 0 types.Empty _ t refl e (λ e. tried vt 1 types.Null _ t refl e (λ e. tried vt 2 types.I2 _ t refl e (λ e.
    tried vt 3 types.I4 _ t refl e (λ e. tried vt 6 types.Cy _ t refl e (λ e. tried vt 8 types.Bstr _ t refl e (λ e.
    tried vt 10 types.Error _ t refl e (λ e. tried vt 11 types.Bool _ t refl e (λ e. tried vt 12 types.Variant _ t refl e (λ e.
    tried vt 14 types.Decimal _ t refl e (λ e. tried vt 16 types.I1 _ t refl e (λ e. tried vt 17 types.Ui1 _ t refl e (λ e.
    tried vt 18 types.Ui2 _ t refl e (λ e. tried vt 19 types.Ui4 _ t refl e (λ e. tried vt 20 types.I8 _ t refl e (λ e.
    tried vt 21 types.Ui8 _ t refl e (λ e. tried vt 22 types.Int _ t refl e (λ e. tried vt 23 types.Uint _ t refl e (λ e. absurd cc))))))))))))))))))

arm_of_reads : (vt : ℕ) (o : Option VarType) → type_at vt ≡ o → Reads (λ v. scalar_vt v ≡ vt) arm (arm_of o)
unfolding arm_of
arm_of_reads vt None e = fail_reads (λ v p text h _.
    let some : type_at vt ≡ Some (type_of v) = ap type_at (sym h) ∙ type_at_vt (type_of v) in
    absurd cc)
arm_of_reads vt (Some t) e = same_values (arm_reads t)
    (λ v h. ap vt_of h ∙ vt_from_type_at vt t e)
    (λ v h. same_type (type_of v) t (sym (type_at_vt (type_of v)) ∙ ap type_at h ∙ e))

pub union_reads : (vt : ℕ) → Reads (λ v. scalar_vt v ≡ vt) union (union_at vt)
unfolding union_at
union_reads vt =
    bind_reads (unit 4) scalar_vt (unit_reads 4) (λ _ _. tt) (λ discriminant _.
    choose_reads (eqb discriminant vt)
    (λ same. same_values (arm_of_reads vt (type_at vt) refl) (λ v h. (h, h ∙ sym (eqb-true _ _ same))) (λ v h. h.0))
    (λ other. fail_reads (λ v p text h _. eqb-false _ _ other (sym h.1 ∙ h.0))))

pub scalar_reads : Reads Always scalar scalar_at
unfolding scalar_at
scalar_reads =
    align_then 8 (ignored_then 4 (ignored_then 4 (bind_reads (unit 2) scalar_vt (unit_reads 2) (λ _ _. tt) (λ vt _.
    ignored_then 2 (ignored_then 2 (ignored_then 2 (same_values (union_reads vt) (λ v h. (tt, h)) (λ v h. h.1))))))))
