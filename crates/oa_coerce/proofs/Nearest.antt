-- Numbers with a sign: their nearest counts are those without, with the sign put back.
use Rattle.std.specs.Prelude.{◌≡◌, ◌≤◌, ◌<◌, ◌+◌, ◌*◌, ◌^◌, ℕ, ℤ, zero, suc, Bool, true, false, pos, negsuc, neg_ℤ, ◌*ℤ◌, ◌-ℤ◌}
use Rattle.std.specs.Prelude.{unsigned_abs}
use Rattle.std.specs.Int.{abs_diff, is_negative}
use Rattle.std.proofs.Common.{refl, sym, ap, subst, ◌∙◌, arith}
use Rattle.std.proofs.lemmas.Bool.{le-ltb}
use Rattle.std.proofs.lemmas.Int.{ints}
use Rattle.std.proofs.Math.IntN.{pos-*ℤ-pos, negsuc-*ℤ-pos}
use Rattle.std.proofs.Math.Nat.{one-le-pow}
use Rattle.oa_coerce.specs.promise.Numbers.{signed}
use Rattle.oa_coerce.specs.Numbers.{IsNearest, IsNearestWhole}
use Rattle.oa_coerce.specs.promise.Answers.{half_even, nearest_count}
use Rattle.oa_coerce.specs.declared.number.Number.{Number}
use Rattle.oa_coerce.proofs.Whole.{one_whole, half_even_is_nearest}

abbrev below_zero : ℤ → Bool
below_zero (pos n) = false
below_zero (negsuc n) = true

is_below_zero : (z : ℤ) → is_negative z ≡ below_zero z
is_below_zero (pos n) = le-ltb n 0 (omega arith)
is_below_zero (negsuc n) = refl

-- differences of two numbers by their signs
between_positive : (a b : ℕ) → unsigned_abs (pos a -ℤ pos b) ≡ abs_diff a b
between_positive a b = omega (arith, ints)

between_negative : (a b : ℕ) → unsigned_abs (neg_ℤ (pos a) -ℤ neg_ℤ (pos b)) ≡ abs_diff a b
between_negative a b = omega (arith, ints)

across_down : (a b : ℕ) → unsigned_abs (neg_ℤ (pos a) -ℤ pos b) ≡ a + b
across_down a b = omega (arith, ints)

across_up : (a b : ℕ) → unsigned_abs (pos a -ℤ neg_ℤ (pos b)) ≡ a + b
across_up a b = omega (arith, ints)

-- and of two products
both_positive : (a u b v : ℕ) → unsigned_abs (pos a *ℤ pos u -ℤ pos b *ℤ pos v) ≡ abs_diff (a * u) (b * v)
both_positive a u b v = rw (pos-*ℤ-pos a u, pos-*ℤ-pos b v) (between_positive (a * u) (b * v))

both_negative : (a u b v : ℕ) → unsigned_abs (negsuc a *ℤ pos u -ℤ negsuc b *ℤ pos v) ≡ abs_diff (suc a * u) (suc b * v)
both_negative a u b v = rw (negsuc-*ℤ-pos a u, negsuc-*ℤ-pos b v) (between_negative (suc a * u) (suc b * v))

second_negative : (a u b v : ℕ) → unsigned_abs (pos a *ℤ pos u -ℤ negsuc b *ℤ pos v) ≡ a * u + suc b * v
second_negative a u b v = rw (pos-*ℤ-pos a u, negsuc-*ℤ-pos b v) (across_up (a * u) (suc b * v))

first_negative : (a u b v : ℕ) → unsigned_abs (negsuc a *ℤ pos u -ℤ pos b *ℤ pos v) ≡ suc a * u + b * v
first_negative a u b v = rw (negsuc-*ℤ-pos a u, pos-*ℤ-pos b v) (across_down (suc a * u) (b * v))

-- a whole unit away is too far
too_far : (a u more : ℕ) → 0 < u → 2 * (suc a * u + more) ≤ u → ⊥
too_far a u more positive near = let next : suc a * u ≡ a * u + u = omega arith in omega (arith, next, near)

-- a nearest count has the sign of its number, or is 0
without_sign : (c : ℤ) (s p : ℕ) (n : ℤ) → 0 < 10 ^ s → IsNearest (record { count = c; scale = s }) p n →
    (m : ℕ) × (n ≡ signed (below_zero c) m) × IsNearestWhole (unsigned_abs c * 10 ^ p) (10 ^ s) m
without_sign (pos b) s p (pos a) positive h = let e = both_positive a (10 ^ s) b (10 ^ p) in
    (a, refl, record { near = rw (← e) h.near; even = λ half. h.even (rw e half) })
without_sign (pos b) s p (negsuc a) positive h = let e = first_negative a (10 ^ s) b (10 ^ p) in
    absurd (too_far a (10 ^ s) (b * 10 ^ p) positive (rw (← e) h.near))
without_sign (negsuc b) s p (pos zero) positive h = let e = second_negative 0 (10 ^ s) b (10 ^ p) in
    (0, refl, record { near = omega (arith, e, h.near); even = λ half. refl })
without_sign (negsuc b) s p (pos (suc a)) positive h = let e = second_negative (suc a) (10 ^ s) b (10 ^ p) in
    absurd (too_far a (10 ^ s) (suc b * 10 ^ p) positive (rw (← e) h.near))
without_sign (negsuc b) s p (negsuc a) positive h = let e = both_negative a (10 ^ s) b (10 ^ p) in
    (suc a, refl, record { near = rw (← e) h.near; even = λ half. h.even (rw e half) })

with_its_sign : (c : ℤ) (s p m : ℕ) → IsNearestWhole (unsigned_abs c * 10 ^ p) (10 ^ s) m
    → IsNearest (record { count = c; scale = s }) p (signed (below_zero c) m)
with_its_sign (pos b) s p m h = let e = both_positive m (10 ^ s) b (10 ^ p) in
    record { near = rw e h.near; even = λ half. h.even (rw (← e) half) }
with_its_sign (negsuc b) s p zero h = let e = second_negative 0 (10 ^ s) b (10 ^ p) in
    record { near = omega (arith, e, h.near); even = λ half. refl }
with_its_sign (negsuc b) s p (suc m) h = let e = both_negative m (10 ^ s) b (10 ^ p) in
    record { near = rw e h.near; even = λ half. h.even (rw (← e) half) }

positive_unit : (s : ℕ) → 0 < 10 ^ s
positive_unit s = omega (arith, one-le-pow s 10 (omega arith))

-- a number has one nearest count alone
pub one_nearest : (x : Number) (p : ℕ) (a b : ℤ) → IsNearest x p a → IsNearest x p b → a ≡ b
one_nearest x p a b of_a of_b =
    let u = positive_unit x.scale in
    let m = without_sign x.count x.scale p a u of_a in
    let n = without_sign x.count x.scale p b u of_b in
    m.1 ∙ (ap (signed (below_zero x.count)) (one_whole (unsigned_abs x.count * 10 ^ p) (10 ^ x.scale) m.0 n.0 u m.2 n.2) ∙ sym n.1)

-- the computed count is it
pub computed_is_nearest : (x : Number) (p : ℕ) → IsNearest x p (nearest_count x p)
computed_is_nearest x p =
    subst (λ minus. IsNearest x p (signed minus (half_even (unsigned_abs x.count * 10 ^ p) (10 ^ x.scale)))) (sym (is_below_zero x.count))
    (with_its_sign x.count x.scale p _ (half_even_is_nearest (unsigned_abs x.count * 10 ^ p) (10 ^ x.scale) (positive_unit x.scale)))

-- a count of units is nearest to itself
pub nearest_itself : (z : ℤ) (p : ℕ) → IsNearest (record { count = z; scale = p }) p z
nearest_itself z p = let u = positive_unit p in
    let e : unsigned_abs (z *ℤ pos (10 ^ p) -ℤ z *ℤ pos (10 ^ p)) ≡ 0 = omega (arith, ints) in
    record { near = omega (arith, e, u); even = λ half. absurd (omega (arith, e, half, u)) }
