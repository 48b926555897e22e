-- The invariants of the loops over the dimensions, from the first to the last.
use Rattle.std.proofs.Common.{◌≡◌, ℕ, zero, suc, ◌+◌, ◌*◌, ◌<◌, ◌≤◌, min, Bool, nat_lt, ◌==◌, length, MatchOption, Option, false, lt-ltb}
use Rattle.std.proofs.Common.{le-ltb, ne_eqb, List, [], ◌∷◌, ℤ, pos, ◌+ℤ◌, sym, ap, subst, ◌∙◌, ⊎_elim, arith, mul_assoc, mul-le-mul_right}
use Rattle.std.proofs.Common.{le-mul_of_pos_right, mul-zero, eq-zero-or-pos}
use Rattle.std.proofs.lemmas.Bool.{cases_lt}
use Rattle.std.specs.Bool.{then_some}
use Rattle.oa_model.specs.promise.Limits.{max_cells}
use Rattle.oa_model.specs.declared.bound.Bound.{Bound}
use Rattle.oa_array.specs.Boxes.{InBounds, IsWithin}
use Rattle.oa_array.specs.promise.Boxes.{box_size, position_of}
use Rattle.oa_array.proofs.Places.{box_size-nil, box_size-cons, position_of-nil, position_of-cons, IsWithin-at}

-- ---- the size, up to 65,537

pub record IsSizeSoFar (bounds left : List Bound) (size : ℕ) : Type 0 where
  pub few : size ≤ 65537
  pub rest : min 65537 (size * box_size left) ≡ min 65537 (box_size bounds)

pub size_starts : (bounds : List Bound) → IsSizeSoFar bounds bounds 1
size_starts bounds = record { few = omega arith; rest = ap (min 65537) (omega arith) }

-- a product that is cut at m before another factor comes, cut at m again
capped_at : (m n : ℕ) (rest : ℕ) → min m (min n m * rest) ≡ min m (n * rest)
capped_at m n zero = omega (arith, mul-zero (min n m), mul-zero n)
capped_at m n (suc rest) =
    ⊎_elim
    (λ h. let cut : min n m ≡ n = omega (arith, h) in ap (λ k. min m (k * suc rest)) cut)
    (λ h.
    let cut : min n m ≡ m = omega (arith, h) in
    let some : 0 < suc rest = omega arith in
    let a : m ≤ m * suc rest = le-mul_of_pos_right m some in
    let b : n ≤ n * suc rest = le-mul_of_pos_right n some in
    ap (λ k. min m (k * suc rest)) cut ∙ omega (arith, a, b, h))
    (cases_lt n m)

pub size_goes_on : (bounds left : List Bound) (bound : Bound) (size : ℕ) → IsSizeSoFar bounds (bound ∷ left) size
    → IsSizeSoFar bounds left (min (size * bound.count) 65537)
size_goes_on bounds left bound size s =
    let whole : size * bound.count * box_size left ≡ size * box_size (bound ∷ left) = mul_assoc size bound.count (box_size left)
    ∙ ap (λ n. size * n) (sym (box_size-cons bound left)) in
    record {
      few = omega arith;
      rest = capped_at 65537 (size * bound.count) (box_size left) ∙ ap (min 65537) whole ∙ s.rest;
    }

pub size_begins : (first : Bound) (others : List Bound) (size : ℕ) → size ≡ min first.count 65537 → IsSizeSoFar (first ∷ others) others size
size_begins first others size e =
    let one : 1 * first.count ≡ first.count = omega arith in
    subst (IsSizeSoFar (first ∷ others) others) (ap (λ n. min n 65537) one ∙ sym e)
    (size_goes_on (first ∷ others) others first 1 (size_starts (first ∷ others)))

pub size_ends : (bounds : List Bound) (size : ℕ) → IsSizeSoFar bounds [] size → min 65537 (box_size bounds) ≡ size
size_ends bounds size s =
    let one = ap (λ n. size * n) box_size-nil in
    omega (arith, s.rest, s.few, one)

-- ---- the position, as long as each index is within its bound

pub record IsPlaceSoFar (bounds : List Bound) (index : List ℤ) (left : List Bound) (given : List ℤ) (place : ℕ) : Type 0 where
  pub inside : InBounds bounds index → InBounds left given
  pub outside : InBounds left given → InBounds bounds index
  pub value : place * box_size left + position_of left given ≡ position_of bounds index
  pub room : (place + 1) * box_size left ≤ box_size bounds
  pub some : 0 < box_size left

pub place_goes_on : (bounds : List Bound) (index : List ℤ) (left : List Bound) (given : List ℤ) (bound : Bound) (above place : ℕ)
    → above < bound.count → IsPlaceSoFar bounds index (bound ∷ left) ((bound.lower +ℤ pos above) ∷ given) place
    → IsPlaceSoFar bounds index left given (place * bound.count + above)
place_goes_on bounds index left given bound above place h s =
    let size = box_size-cons bound left in
    let whole : place * box_size (bound ∷ left) ≡ place * bound.count * box_size left = ap (λ n. place * n) size
    ∙ sym (mul_assoc place bound.count (box_size left)) in
    let at = position_of-cons bound left above given h in
    let fits : above + 1 ≤ bound.count = omega (arith, h) in
    let row = mul-le-mul_right (box_size left) fits in
    record {
      inside = λ w. (s.inside w).1;
      outside = λ w. s.outside (IsWithin-at bound above h, w);
      value = omega (arith, whole, at, s.value);
      room = omega (arith, whole, size, row, s.room);
      some = ⊎_elim (λ e. absurd (omega (arith, s.some, size, ap (λ n. bound.count * n) e))) (λ p. p) (eq-zero-or-pos (box_size left));
    }

pub place_fits : (bounds : List Bound) (index : List ℤ) (left : List Bound) (given : List ℤ) (place : ℕ)
    → IsPlaceSoFar bounds index left given place → place < box_size bounds
place_fits bounds index left given place s =
    let row : place + 1 ≤ (place + 1) * box_size left = le-mul_of_pos_right (place + 1) s.some in
    omega (arith, s.room, row)

pub place_ends : (bounds : List Bound) (index : List ℤ) (place : ℕ) → IsPlaceSoFar bounds index [] [] place
    → InBounds bounds index × (place ≡ position_of bounds index) × (place < box_size bounds)
place_ends bounds index place s =
    let one = ap (λ n. place * n) box_size-nil in
    (s.outside tt, omega (arith, one, position_of-nil, s.value), place_fits bounds index [] [] place s)

pub place_steps : (bounds : List Bound) (index : List ℤ) (left : List Bound) (given : List ℤ) (place : ℕ) (bound : Bound)
    (more : List Bound) (first : ℤ) (rest : List ℤ) (above m k : ℕ) → left ≡ bound ∷ more → given ≡ first ∷ rest
    → bound.lower +ℤ pos above ≡ first → above < bound.count → m ≡ bound.count → k ≡ above → IsPlaceSoFar bounds index left given place
    → IsPlaceSoFar bounds index more rest (place * m + k)
place_steps bounds index left given place bound more first rest above m k at_left at_given at_first h em ek s =
    let to : given ≡ (bound.lower +ℤ pos above) ∷ rest = at_given ∙ ap (λ i. i ∷ rest) (sym at_first) in
    let P : List Bound → Type 0 = λ l. IsPlaceSoFar bounds index l given place in
    let Q : List ℤ → Type 0 = λ l. IsPlaceSoFar bounds index (bound ∷ more) l place in
    let R : ℕ → Type 0 = λ n. IsPlaceSoFar bounds index more rest n in
    subst R (omega (arith, ap (λ n. place * n) em, ek)) (place_goes_on bounds index more rest bound above place h (subst Q to (subst P at_left s)))

-- an index that is lacking, or outside its bound: the index list does not lie in the bounds
pub no_index : (bounds : List Bound) (index : List ℤ) (left : List Bound) (given : List ℤ) (place : ℕ) (bound : Bound)
    (more : List Bound) → left ≡ bound ∷ more → length given ≡ 0 → IsPlaceSoFar bounds index left given place
    → InBounds bounds index → ⊥
no_index bounds index left (i ∷ given) place bound more at_left e s h = absurd (omega (arith, e))
no_index bounds index left [] place bound more at_left e s h = subst (λ l. InBounds l []) at_left (s.inside h)

pub outside_bound : (bounds : List Bound) (index : List ℤ) (left : List Bound) (given : List ℤ) (place : ℕ) (bound : Bound)
    (more : List Bound) (first : ℤ) (rest : List ℤ) → left ≡ bound ∷ more → given ≡ first ∷ rest → (IsWithin bound first → ⊥)
    → IsPlaceSoFar bounds index left given place → InBounds bounds index → ⊥
outside_bound bounds index left given place bound more first rest at_left at_given out s h =
    out (subst (λ l. InBounds l (first ∷ rest)) at_left (subst (λ l. InBounds left l) at_given (s.inside h))).0

pub size_steps : (bounds left : List Bound) (size : ℕ) (bound : Bound) (more : List Bound) (m n : ℕ) → left ≡ bound ∷ more
    → m ≡ bound.count → n ≡ min (size * m) 65537 → IsSizeSoFar bounds left size → IsSizeSoFar bounds more n
size_steps bounds left size bound more m n at_left em en s =
    let P : List Bound → Type 0 = λ l. IsSizeSoFar bounds l size in
    let R : ℕ → Type 0 = λ k. IsSizeSoFar bounds more k in
    subst R (sym (en ∙ ap (λ k. min (size * k) 65537) em)) (size_goes_on bounds more bound size (subst P at_left s))

abbrev IsPlaceAnswer : List Bound → List ℤ → ℕ → Option ℕ → Type 0
IsPlaceAnswer bounds index size r =
    MatchOption r (InBounds bounds index → ⊥) (λ place. InBounds bounds index × (place ≡ position_of bounds index) × (place < size))

place_answer : (bounds : List Bound) (index : List ℤ) (left : List Bound) (given : List ℤ) (place size : ℕ) → length left ≡ 0
    → size ≡ box_size bounds → IsPlaceSoFar bounds index left given place
    → IsPlaceAnswer bounds index size (then_some (length given == 0) place)
place_answer bounds index (bound ∷ left) given place size e es s = absurd (omega (arith, e))
place_answer bounds index [] (i ∷ given) place size e es s =
    let more : (length (i ∷ given) == 0) ≡ false = ne_eqb (length (i ∷ given)) 0 (λ z. omega (arith, z)) in
    subst (λ b. IsPlaceAnswer bounds index size (then_some b place)) (sym more) (λ h. s.inside h)
place_answer bounds index [] [] place size e es s =
    let done = place_ends bounds index place s in
    (done.0, done.1, omega (arith, es, done.2))

pub place_returns : (bounds : List Bound) (index : List ℤ) (left : List Bound) (given : List ℤ) (place size : ℕ) (b : Bool) (r : Option ℕ)
    → r ≡ then_some b place → b ≡ (length given == 0) → length left ≡ 0 → size ≡ box_size bounds
    → IsPlaceSoFar bounds index left given place → IsPlaceAnswer bounds index size r
place_returns bounds index left given place size b r er eb e es s =
    subst (IsPlaceAnswer bounds index size) (sym (er ∙ ap (λ t. then_some t place) eb)) (place_answer bounds index left given place size e es s)

abbrev IsSizeAnswer : List Bound → Option ℕ → Type 0
IsSizeAnswer bounds r = MatchOption r (max_cells < box_size bounds) (λ n. (n ≡ box_size bounds) × (n ≤ max_cells))

size_answer : (bounds left : List Bound) (size : ℕ) → length left ≡ 0 → IsSizeSoFar bounds left size
    → IsSizeAnswer bounds (then_some (nat_lt size 65537) size)
size_answer bounds (bound ∷ left) size e s = absurd (omega (arith, e))
size_answer bounds [] size e s =
    let all = size_ends bounds size s in
    ⊎_elim
    (λ h. subst (λ b. IsSizeAnswer bounds (then_some b size)) (sym (lt-ltb size 65537 h)) (omega (arith, all, h), omega (arith, h)))
    (λ h. subst (λ b. IsSizeAnswer bounds (then_some b size)) (sym (le-ltb size 65537 h)) (omega (arith, all, h)))
    (cases_lt size 65537)

pub size_returns : (bounds left : List Bound) (size past : ℕ) (r : Option ℕ) → r ≡ then_some (nat_lt size past) size → past ≡ 65537
    → length left ≡ 0 → IsSizeSoFar bounds left size → IsSizeAnswer bounds r
size_returns bounds left size past r er ep e s =
    subst (IsSizeAnswer bounds) (sym (er ∙ ap (λ n. then_some (nat_lt size n) size) ep)) (size_answer bounds left size e s)
