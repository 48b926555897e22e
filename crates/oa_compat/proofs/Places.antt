-- Places that stand at one place in their order are the same.
use Rattle.std.proofs.Common.{◌≡◌, [], ◌∷◌, refl, ap}
use Rattle.std.proofs.lemmas.Bool.{true≢false}
use Rattle.std.proofs.lemmas.Map.Lookups.{CmpEqualImpliesEq, exact_signed, exact_bytes}
use Rattle.std.specs.Cmp.Lexicographic.{slice_cmp}
use Rattle.std.specs.Ordering.{nat_cmp, int_cmp, ordering_then, is_lt, is_gt}
use Rattle.std.specs.declared.cmp.Ordering.{Ordering}
use Rattle.std.specs.declared.cmp.Ordering.TheVariants.{Less, Equal, Greater}
use Rattle.oa_table.specs.promise.Places.{key_cmp, place_cmp}
use Rattle.oa_variant.specs.promise.Keys.{scalar_cmp}

both_equal : (a b : Ordering) → ordering_then a b ≡ Equal → (a ≡ Equal) × (b ≡ Equal)
both_equal Less b e = absurd (true≢false (ap is_lt e))
both_equal Equal b e = (refl, e)
both_equal Greater b e = absurd (true≢false (ap is_gt e))

module _ (exact_scalars : CmpEqualImpliesEq scalar_cmp) where
  exact_keys : CmpEqualImpliesEq key_cmp
  exact_keys [] [] e = refl
  exact_keys [] (y ∷ ys) e = absurd (true≢false (ap is_lt e))
  exact_keys (x ∷ xs) [] e = absurd (true≢false (ap is_gt e))
  exact_keys (x ∷ xs) (y ∷ ys) e =
      let h = both_equal _ (key_cmp xs ys) e in
      let first = exact_scalars x y h.0 in
      let others = exact_keys xs ys h.1 in
      λ i. first i ∷ others i

  pub exact_places : CmpEqualImpliesEq place_cmp
  exact_places p q e =
      let h = both_equal (slice_cmp nat_cmp p.interface q.interface) (ordering_then (int_cmp p.dispid q.dispid) (key_cmp p.key q.key)) e in
      let k = both_equal (int_cmp p.dispid q.dispid) (key_cmp p.key q.key) h.1 in
      let interface = exact_bytes p.interface q.interface h.0 in
      let dispid = exact_signed p.dispid q.dispid k.0 in
      let key = exact_keys p.key q.key k.1 in
      λ i. record { interface = interface i; dispid = dispid i; key = key i }
