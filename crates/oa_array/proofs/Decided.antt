-- A test decides whether an index list is within bounds.
use Rattle.std.proofs.Common.{◌≡◌, ℤ, ◌<ℤ◌, ◌≤ℤ◌, pos, ◌+ℤ◌, Bool, true, false, ◌&&◌, T, List, [], ◌∷◌, refl, sym, true≢false, int_lt}
use Rattle.std.proofs.Common.{int_le}
use Rattle.std.specs.Bool.{Decides}
use Rattle.std.proofs.lemmas.Float.{T_from_true}
use Rattle.oa_model.specs.declared.bound.Bound.{Bound}
use Rattle.oa_array.specs.Boxes.{InBounds, IsWithin}
use Rattle.oa_array.specs.promise.Within.{in_bounds, within}

is_true : (b : Bool) → T b → b ≡ true
is_true true t = refl
is_true false t = absurd t

below_decided : (a b : ℤ) → Decides (int_lt a b) (a <ℤ b)
below_decided a b = (λ e. record { lt = T_from_true (int_lt a b) e }, λ h. is_true (int_lt a b) h.lt)

at_most_decided : (a b : ℤ) → Decides (int_le a b) (a ≤ℤ b)
at_most_decided a b = (λ e. record { le = T_from_true (int_le a b) e }, λ h. is_true (int_le a b) h.le)

both_decided : (P Q : Type 0) (a b : Bool) → Decides a P → Decides b Q → Decides (a && b) (P × Q)
both_decided P Q true b p q = (λ e. (p.0 refl, q.0 e), λ h. q.1 h.1)
both_decided P Q false b p q = (λ e. absurd (true≢false (sym e)), λ h. p.1 h.0)

within_tells : (b : Bound) (i : ℤ) → Decides (within b i) (IsWithin b i)
within_tells b i =
    both_decided _ _ (int_le b.lower i) (int_lt i (b.lower +ℤ pos b.count)) (at_most_decided b.lower i) (below_decided i (b.lower +ℤ pos b.count))

pub in_bounds_tells : (bounds : List Bound) (index : List ℤ) → Decides (in_bounds bounds index) (InBounds bounds index)
unfolding in_bounds
in_bounds_tells [] [] = (λ e. tt, λ h. refl)
in_bounds_tells [] (i ∷ is) = (λ e. absurd (true≢false (sym e)), λ h. absurd h)
in_bounds_tells (b ∷ bs) [] = (λ e. absurd (true≢false (sym e)), λ h. absurd h)
in_bounds_tells (b ∷ bs) (i ∷ is) = both_decided _ _ (within b i) (in_bounds bs is) (within_tells b i) (in_bounds_tells bs is)
