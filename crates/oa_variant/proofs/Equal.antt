-- Equal values are the same except for the locks of an array.
use Rattle.std.proofs.Common.{◌≡◌, ◌↔◌, refl, sym, ap, ◌∙◌, Bool, true, false}
use Rattle.std.specs.Bool.{Decides}
use Rattle.std.specs.Ordering.{eq_by_cmp, is_eq}
use Rattle.std.specs.declared.cmp.Ordering.{Ordering}
use Rattle.std.specs.declared.cmp.Ordering.TheVariants.{Less, Equal, Greater}
use Rattle.std.proofs.lemmas.Bool.{false≢true}
use Rattle.std.proofs.lemmas.Bool.Decides.{Decides-and, Decides-eqb, Decides-int_eq, Decides-like}
use Rattle.std.proofs.lemmas.Cmp.{tied_itself}
use Rattle.std.proofs.lemmas.Slice.Eq.{slice_eq-Decides}
use denote.Enum.Bare.{same_true, true_same}
use Rattle.oa_model.specs.declared.var_type.VarType.{VarType}
use Rattle.oa_model.specs.declared.bound.Bound.{Bound}
use Rattle.oa_model.specs.contracts.var_type.VarType.{the_type as var_type}
use Rattle.oa_model.specs.contracts.var_type.VarTypePartialEq.TheImpl.{ghosts as of_types}
use Rattle.oa_model.specs.contracts.bound.BoundPartialEq.TheImpl.{ghosts as of_bounds}
use Rattle.oa_array.specs.promise.Arrays.{ArrayValue}
use Rattle.oa_variant.specs.promise.Keys.{scalar_cmp}
use Rattle.oa_variant.specs.Keys.{scalars_total}
use Rattle.oa_variant.specs.promise.Variants.{unlocked}
use Rattle.oa_variant.specs.declared.scalar.Scalar.{Scalar}
use Rattle.oa_variant.specs.declared.variant.Variant.{Variant}
use Rattle.oa_variant.specs.declared.variant.Variant.TheVariants.{One, Array}
use Rattle.oa_variant.specs.contracts.variant.VariantPartialEq.TheImpl.{ghosts as of_variants}
use Rattle.oa_variant.proofs.Exact.{exact_scalars}

types_decide : (a b : VarType) → Decides (of_types.eq a b) (a ≡ b)
types_decide a b = (same_true var_type tt a b, true_same var_type a b)

bounds_decide : (a b : Bound) → Decides (of_bounds.eq a b) (a ≡ b)
bounds_decide a b = Decides-like (of_bounds.eq a b) (λ h i. record { count = h.0 i; lower = h.1 i }) (λ e. (ap (λ x. x.count) e, ap (λ x. x.lower) e))
    (Decides-and _ _ (Decides-eqb a.count b.count) (Decides-int_eq a.lower b.lower))

tied : (o : Ordering) → is_eq o ≡ true → o ≡ Equal
tied Less e = absurd (false≢true e)
tied Equal e = refl
tied Greater e = absurd (false≢true e)

scalars_decide : (a b : Scalar) → Decides (eq_by_cmp scalar_cmp a b) (a ≡ b)
scalars_decide a b = (λ e. exact_scalars a b (tied (scalar_cmp a b) e), λ e. ap (eq_by_cmp scalar_cmp a) (sym e) ∙ ap is_eq (tied_itself scalars_total a))

-- the parts of two arrays but for their locks
abbrev Same : ArrayValue Scalar → ArrayValue Scalar → Type 0
Same a b = ((a.elem ≡ b.elem) × (a.bounds ≡ b.bounds)) × (a.cells ≡ b.cells)

arrays_decide : (a b : ArrayValue Scalar) → Decides (of_variants.eq (Array a) (Array b)) (Same a b)
arrays_decide a b = Decides-and _ _ (Decides-and _ _ (types_decide a.elem b.elem) (slice_eq-Decides bounds_decide a.bounds b.bounds _ refl))
    (slice_eq-Decides scalars_decide a.cells b.cells _ refl)

abbrev cells_of : Variant → ArrayValue Scalar → ArrayValue Scalar
cells_of (One s) a = a
cells_of (Array a) b = a

abbrev is_one : Variant → Bool
is_one (One s) = true
is_one (Array a) = false

abbrev scalar_in : Variant → Scalar → Scalar
scalar_in (One s) t = s
scalar_in (Array a) t = t

pub equal : (a b : Variant) → (of_variants.eq a b ≡ true) ↔ (unlocked a ≡ unlocked b)
equal (One a) (One b) = Decides-like _ (ap One) (ap (λ v. scalar_in v a)) (scalars_decide a b)
equal (One a) (Array b) = (λ e. absurd (false≢true e), λ e. sym (ap is_one e))
equal (Array a) (One b) = (λ e. absurd (false≢true e), λ e. ap is_one e)
equal (Array a) (Array b) = Decides-like _
    (λ h i. Array (record { elem = h.0.0 i; bounds = h.0.1 i; cells = h.1 i; locks = 0 }))
    (λ e. ((ap (λ v. (cells_of v a).elem) e, ap (λ v. (cells_of v a).bounds) e), ap (λ v. (cells_of v a).cells) e))
    (arrays_decide a b)
