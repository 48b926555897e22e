-- Numbers without sign: there is one nearest whole number, and the computed one is it.
use Rattle.std.specs.Prelude.{◌≡◌, ◌≤◌, ◌<◌, ◌+◌, ◌-◌, ◌*◌, ◌/◌, ◌%◌, ◌||◌, ◌&&◌, ◌==◌, ltb, ℕ, zero, suc}
use Rattle.std.specs.Int.{abs_diff}
use Rattle.std.proofs.Common.{inl, inr, sym, subst, arith}
use Rattle.std.proofs.lemmas.Bool.{cases_order, cases_eq, cond_both, or_cases, or_parts, and_parts, and_cases, ltb-true, ltb-false}
use Rattle.std.proofs.lemmas.Bool.{eqb-true, eqb-false}
use Rattle.std.proofs.lemmas.Nat.{div-add-mod', mod_below}
use Rattle.oa_coerce.specs.Numbers.{IsNearestWhole}
use Rattle.oa_coerce.specs.promise.Answers.{half_even}

-- of two nearest ones neither is the smaller: the next number but one is too far, and next to one another both would be half a unit off
none_above : (w u a more : ℕ) → 0 < u → IsNearestWhole w u a → IsNearestWhole w u (a + 1 + more) → ⊥
none_above w u a zero positive low high =
    let next : (a + 1 + 0) * u ≡ a * u + u = omega arith in
    let near : 2 * abs_diff (a * u + u) w ≤ u = subst (λ x. 2 * abs_diff x w ≤ u) next high.near in
    let low_half : 2 * abs_diff (a * u) w ≡ u = omega (arith, low.near, near) in
    let high_half : 2 * abs_diff (a * u + u) w ≡ u = omega (arith, low.near, near) in
    omega (arith, low.even low_half, high.even (rw next high_half))
none_above w u a (suc more) positive low high =
    let far : (a + 1 + suc more) * u ≡ a * u + u + u + more * u = omega arith in
    let near : 2 * abs_diff (a * u + u + u + more * u) w ≤ u = subst (λ x. 2 * abs_diff x w ≤ u) far high.near in
    omega (arith, low.near, near)

pub one_whole : (w u a b : ℕ) → 0 < u → IsNearestWhole w u a → IsNearestWhole w u b → a ≡ b
one_whole w u a b positive of_a of_b = elim (cases_order a b) [
  | inl same ↦ same
  | inr (inl below) ↦ absurd (none_above w u a (b - (a + 1)) positive of_a (let e : a + 1 + (b - (a + 1)) ≡ b = omega arith in rw e of_b))
  | inr (inr above) ↦ absurd (none_above w u b (a - (b + 1)) positive of_b (let e : b + 1 + (a - (b + 1)) ≡ a = omega arith in rw e of_a))
]

-- rounding a quotient with its rest; all that matters of the two is that they make the number up
up : (w u quotient rest : ℕ) → quotient * u + rest ≡ w → rest < u → u ≤ 2 * rest → (2 * rest ≡ u → quotient % 2 ≡ 1)
    → IsNearestWhole w u (quotient + 1)
up w u quotient rest made small large odd = let next : (quotient + 1) * u ≡ quotient * u + u = omega arith in
    record {
      near = subst (λ x. 2 * abs_diff x w ≤ u) (sym next) (omega (arith, made, small, large));
      even = λ half. let h : 2 * abs_diff (quotient * u + u) w ≡ u = subst (λ x. 2 * abs_diff x w ≡ u) next half in
          omega (arith, odd (omega (arith, made, small, h)));
    }

down : (w u quotient rest : ℕ) → quotient * u + rest ≡ w → 2 * rest ≤ u → (2 * rest ≡ u → quotient % 2 ≡ 0) → IsNearestWhole w u quotient
down w u quotient rest made small even = record { near = omega (arith, made, small); even = λ half. even (omega (arith, made, half)) }

not_odd : (n : ℕ) → n < 2 → (n ≡ 1 → ⊥) → n ≡ 0
not_odd n small never = elim (cases_eq n 1) [ inl odd ↦ absurd (never odd) | inr even ↦ omega (arith, small, even) ]

pub half_even_is_nearest : (w u : ℕ) → 0 < u → IsNearestWhole w u (half_even w u)
half_even_is_nearest w u positive = let made = div-add-mod' w u in let small = mod_below w u positive in
    cond_both (ltb u (2 * (w % u)) || 2 * (w % u) == u && w / u % 2 == 1) (w / u + 1) (w / u) (IsNearestWhole w u)
    (λ either. elim (or_cases (ltb u (2 * (w % u))) (2 * (w % u) == u && w / u % 2 == 1) either) [
      | inl above ↦ let h = ltb-true u (2 * (w % u)) above in up w u (w / u) (w % u) made small (omega (arith, h)) (λ half. absurd (omega (arith, h, half)))
      | inr both ↦ let h = and_parts (2 * (w % u) == u) (w / u % 2 == 1) both in
          up w u (w / u) (w % u) made small (omega (arith, eqb-true _ _ h.0)) (λ half. eqb-true _ _ h.1)
    ])
    (λ neither. let h = or_parts (ltb u (2 * (w % u))) (2 * (w % u) == u && w / u % 2 == 1) neither in
    down w u (w / u) (w % u) made (ltb-false u (2 * (w % u)) h.0) (λ half. elim (and_cases (2 * (w % u) == u) (w / u % 2 == 1) h.1) [
      | inl other ↦ absurd (eqb-false _ _ other half)
      | inr even ↦ let n = eqb-false (w / u % 2) 1 even in let two = mod_below (w / u) 2 (omega arith) in not_odd (w / u % 2) two n
    ]))
