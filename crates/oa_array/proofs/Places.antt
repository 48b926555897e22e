-- The box of some bounds, one dimension after another.
use Rattle.std.proofs.Common.{◌≡◌, ℕ, zero, suc, ◌+◌, ◌*◌, ◌-◌, ◌<◌, Bool, true, false, List, [], ◌∷◌, map, length, count_by, flat_map}
use Rattle.std.proofs.Common.{slice_get, Some, ℤ, pos, negsuc, ◌+ℤ◌, ◌-ℤ◌, ◌<ℤ◌, int_cmp, is_lt, Less, Equal, Greater, refl, sym, ap, subst}
use Rattle.std.proofs.Common.{◌∙◌, ⊎_elim, option_map, arith, length-append, zero-mul, suc-mul, zero-add}
use Rattle.std.proofs.lemmas.List.{length-map}
use Rattle.std.proofs.lemmas.Bool.{cases_lt}
use Rattle.std.proofs.lemmas.Option.{none-some, slice_get-map, slice_get_within}
use Rattle.std.proofs.lemmas.Int.{ints}
use Rattle.std.proofs.lemmas.Nat.{mul-add-lt}
use Rattle.std.specs.Ordering.{ordering_then}
use Rattle.std.specs.List.{range_with_len}
use Rattle.std.specs.Cmp.{int_cmp_is}
use Rattle.std.specs.Cmp.Lexicographic.{slice_cmp}
use Rattle.oa_model.specs.declared.bound.Bound.{Bound}
use Rattle.oa_array.specs.Boxes.{IsWithin, InBounds}
use Rattle.oa_array.specs.promise.Boxes.{index_lists, box_size, comes_before, position_of}
use Rattle.oa_array.proofs.Counting.{count-append, count-map, count_all, count_none, get_left, get_right, option_map-Some, same_inside}

-- index lists that begin with one index, and those that begin with the n indices from low + a on
abbrev with_first : List (List ℤ) → ℤ → List (List ℤ)
with_first rest i = map (λ tail. i ∷ tail) rest

abbrev rows : ℤ → List (List ℤ) → ℕ → ℕ → List (List ℤ)
rows low rest a n = flat_map (with_first rest) (map (λ k. low +ℤ pos k) (range_with_len a n))

abbrev before : List ℤ → List ℤ → Bool
before index member = comes_before member index

length-rows : (low : ℤ) (rest : List (List ℤ)) (a n : ℕ) → length (rows low rest a n) ≡ n * length rest
length-rows low rest a zero = sym (zero-mul (length rest))
length-rows low rest a (suc n) =
    let row = length-map rest (λ tail. (low +ℤ pos a) ∷ tail) in
    let both = length-append (with_first rest (low +ℤ pos a)) (rows low rest (a + 1) n) in
    omega (arith, row, both, length-rows low rest (a + 1) n, suc-mul n (length rest))

-- ---- counting the smaller ones

earlier : (j i : ℤ) (tail : List ℤ) (rest : List (List ℤ)) → j <ℤ i → count_by (before (i ∷ tail)) (with_first rest j) ≡ length rest
earlier j i tail rest h =
    let less : int_cmp j i ≡ Less = sym (int_cmp_is j i Less h) in
    count-map (before (i ∷ tail)) (λ m. true) (λ m. j ∷ m) rest (λ m. ap (λ o. is_lt (ordering_then o (slice_cmp int_cmp m tail))) less) ∙ count_all rest

same : (i : ℤ) (tail : List ℤ) (rest : List (List ℤ)) → count_by (before (i ∷ tail)) (with_first rest i) ≡ count_by (before tail) rest
same i tail rest =
    let equal : int_cmp i i ≡ Equal = sym (int_cmp_is i i Equal refl) in
    count-map (before (i ∷ tail)) (before tail) (λ m. i ∷ m) rest (λ m. ap (λ o. is_lt (ordering_then o (slice_cmp int_cmp m tail))) equal)

later : (j i : ℤ) (tail : List ℤ) (rest : List (List ℤ)) → i <ℤ j → count_by (before (i ∷ tail)) (with_first rest j) ≡ 0
later j i tail rest h =
    let more : int_cmp j i ≡ Greater = sym (int_cmp_is j i Greater h) in
    count-map (before (i ∷ tail)) (λ m. false) (λ m. j ∷ m) rest (λ m. ap (λ o. is_lt (ordering_then o (slice_cmp int_cmp m tail))) more) ∙ count_none rest

count_past : (low : ℤ) (k : ℕ) (tail : List ℤ) (rest : List (List ℤ)) (a n : ℕ) → k < a
    → count_by (before ((low +ℤ pos k) ∷ tail)) (rows low rest a n) ≡ 0
count_past low k tail rest a zero h = refl
count_past low k tail rest a (suc n) h =
    let p = before ((low +ℤ pos k) ∷ tail) in
    let both = count-append p (with_first rest (low +ℤ pos a)) (rows low rest (a + 1) n) in
    let row = later (low +ℤ pos a) (low +ℤ pos k) tail rest (omega (arith, ints, h)) in
    omega (arith, both, row, count_past low k tail rest (a + 1) n (omega (arith, h)))

count_rows : (low : ℤ) (k : ℕ) (tail : List ℤ) (rest : List (List ℤ)) (a n d : ℕ) → a + d ≡ k → d < n
    → count_by (before ((low +ℤ pos k) ∷ tail)) (rows low rest a n) ≡ d * length rest + count_by (before tail) rest
count_rows low k tail rest a zero d e h = absurd (omega (arith, h))
count_rows low k tail rest a (suc n) zero e h =
    let p = before ((low +ℤ pos k) ∷ tail) in
    let both = count-append p (with_first rest (low +ℤ pos a)) (rows low rest (a + 1) n) in
    let here : a ≡ k = omega (arith, e) in
    let row = ap (λ i. count_by p (with_first rest (low +ℤ pos i))) here ∙ same (low +ℤ pos k) tail rest in
    omega (arith, both, row, count_past low k tail rest (a + 1) n (omega (arith, e)), zero-mul (length rest))
count_rows low k tail rest a (suc n) (suc d) e h =
    let p = before ((low +ℤ pos k) ∷ tail) in
    let both = count-append p (with_first rest (low +ℤ pos a)) (rows low rest (a + 1) n) in
    let row = earlier (low +ℤ pos a) (low +ℤ pos k) tail rest (omega (arith, ints, e)) in
    omega (arith, both, row, count_rows low k tail rest (a + 1) n d (omega (arith, e)) (omega (arith, h)), suc-mul d (length rest))

-- ---- The index list at a place.

at_row : (low : ℤ) (rest : List (List ℤ)) (a n d q : ℕ) → d < n → q < length rest
    → slice_get (rows low rest a n) (d * length rest + q) ≡ slice_get (with_first rest (low +ℤ pos (a + d))) q
at_row low rest a zero d q h g = absurd (omega (arith, h))
at_row low rest a (suc n) zero q h g =
    let row = length-map rest (λ tail. (low +ℤ pos a) ∷ tail) in
    let at : 0 * length rest + q ≡ q = omega (arith, zero-mul (length rest)) in
    let first : a ≡ a + 0 = omega arith in
    ap (slice_get (rows low rest a (suc n))) at ∙ get_left (with_first rest (low +ℤ pos a)) (rows low rest (a + 1) n) q (omega (arith, row, g))
    ∙ ap (λ i. slice_get (with_first rest (low +ℤ pos i)) q) first
at_row low rest a (suc n) (suc d) q h g =
    let row = length-map rest (λ tail. (low +ℤ pos a) ∷ tail) in
    let next : a + 1 + d ≡ a + suc d = omega arith in
    get_right (with_first rest (low +ℤ pos a)) (rows low rest (a + 1) n) (d * length rest + q) (suc d * length rest + q)
    (omega (arith, row, suc-mul d (length rest)))
    ∙ at_row low rest (a + 1) n d q (omega (arith, h)) g ∙ ap (λ i. slice_get (with_first rest (low +ℤ pos i)) q) next

-- A place of the rows has an index of the run, followed by the indices at a place of the other dimensions.
pub record StandsAt (low : ℤ) (rest : List (List ℤ)) (a n p : ℕ) (index : List ℤ) : Type 0 where
  pub above : ℕ
  pub tail : List ℤ
  pub below : ℕ
  pub inside : above < n
  pub list : index ≡ (low +ℤ pos (a + above)) ∷ tail
  pub others : slice_get rest below ≡ Some tail
  pub place : p ≡ above * length rest + below

at_first : (low : ℤ) (rest : List (List ℤ)) (a n p : ℕ) (index : List ℤ)
    → (x : List ℤ) × ((slice_get rest p ≡ Some x) × ((low +ℤ pos a) ∷ x ≡ index)) → StandsAt low rest a (suc n) p index
at_first low rest a n p index w =
    let at : a + 0 ≡ a = omega arith in
    record {
      above = 0;
      tail = w.0;
      below = p;
      inside = omega arith;
      list = sym w.1.1 ∙ ap (λ i. (low +ℤ pos i) ∷ w.0) (sym at);
      others = w.1.0;
      place = omega (arith, zero-mul (length rest));
    }

at_next : (low : ℤ) (rest : List (List ℤ)) (a n p r : ℕ) (index : List ℤ) → p ≡ length rest + r → StandsAt low rest (a + 1) n r index
    → StandsAt low rest a (suc n) p index
at_next low rest a n p r index e s =
    let at : a + 1 + s.above ≡ a + suc s.above = omega arith in
    record {
      above = suc s.above;
      tail = s.tail;
      below = s.below;
      inside = omega (arith, s.inside);
      list = s.list ∙ ap (λ i. (low +ℤ pos i) ∷ s.tail) at;
      others = s.others;
      place = omega (arith, e, s.place, suc-mul s.above (length rest));
    }

row_found : (low : ℤ) (rest : List (List ℤ)) (a n p : ℕ) (index : List ℤ) → slice_get (rows low rest a n) p ≡ Some index
    → StandsAt low rest a n p index
row_found low rest a zero p index e = absurd (none-some index e)
row_found low rest a (suc n) p index e =
    let first = with_first rest (low +ℤ pos a) in
    let more = rows low rest (a + 1) n in
    let row = length-map rest (λ tail. (low +ℤ pos a) ∷ tail) in
    ⊎_elim
    (λ h.
    let got = sym (get_left first more p (omega (arith, row, h))) ∙ e in
    at_first low rest a n p index (option_map-Some (λ tail. (low +ℤ pos a) ∷ tail) (slice_get rest p) index
    (sym (slice_get-map (λ tail. (low +ℤ pos a) ∷ tail) rest p) ∙ got)))
    (λ h.
    let apart : p ≡ length rest + (p - length rest) = omega (arith, h) in
    let got = sym (get_right first more (p - length rest) p (omega (arith, row, apart))) ∙ e in
    at_next low rest a n p (p - length rest) index apart (row_found low rest (a + 1) n (p - length rest) index got))
    (cases_lt p (length rest))

-- ---- the definitions, one dimension after another

pub box_size-nil : box_size [] ≡ 1
unfolding box_size index_lists
box_size-nil = refl

pub box_size-cons : (bound : Bound) (rest : List Bound) → box_size (bound ∷ rest) ≡ bound.count * box_size rest
unfolding box_size index_lists
box_size-cons bound rest = length-rows bound.lower (index_lists rest) 0 bound.count

pub position_of-nil : position_of [] [] ≡ 0
unfolding position_of index_lists
position_of-nil = refl

pub position_of-cons : (bound : Bound) (rest : List Bound) (above : ℕ) (tail : List ℤ) → above < bound.count
    → position_of (bound ∷ rest) ((bound.lower +ℤ pos above) ∷ tail) ≡ above * box_size rest + position_of rest tail
unfolding position_of box_size index_lists
position_of-cons bound rest above tail h = count_rows bound.lower above tail (index_lists rest) 0 bound.count above (zero-add above) h

pub IsWithin-at : (bound : Bound) (above : ℕ) → above < bound.count → IsWithin bound (bound.lower +ℤ pos above)
IsWithin-at bound above h = (omega (arith, ints), omega (arith, ints, h))

-- The distance of an index from the lowest one.
above_lowest : (bound : Bound) (i d : ℤ) → i -ℤ bound.lower ≡ d → IsWithin bound i
    → (above : ℕ) × ((i ≡ bound.lower +ℤ pos above) × (above < bound.count))
above_lowest bound i (pos k) e w = (k, (omega (arith, ints, e), omega (arith, ints, e, w.0, w.1)))
above_lowest bound i (negsuc k) e w = absurd (omega (arith, ints, e, w.0, w.1))

pub IsWithin-above : (bound : Bound) (i : ℤ) → IsWithin bound i → (above : ℕ) × ((i ≡ bound.lower +ℤ pos above) × (above < bound.count))
IsWithin-above bound i w = above_lowest bound i (i -ℤ bound.lower) refl w

pub position-below : (bounds : List Bound) (index : List ℤ) → InBounds bounds index → position_of bounds index < box_size bounds
position-below [] [] h = omega (arith, box_size-nil, position_of-nil)
position-below [] (i ∷ index) h = absurd h
position-below (bound ∷ rest) [] h = absurd h
position-below (bound ∷ rest) (i ∷ tail) h =
    let w = IsWithin-above bound i h.0 in
    let P : ℤ → Type 0 = λ j. position_of (bound ∷ rest) (j ∷ tail) < box_size (bound ∷ rest) in
    subst P (sym w.1.0) (omega (
      arith,
      box_size-cons bound rest,
      position_of-cons bound rest w.0 tail w.1.1,
      mul-add-lt w.0 (box_size rest)
          (position_of rest tail) bound.count w.1.1 (position-below rest tail h.1),
    ))

member-nil : slice_get (index_lists []) (position_of [] []) ≡ Some []
unfolding index_lists position_of
member-nil = refl

member-cons : (bound : Bound) (rest : List Bound) (above place : ℕ) (tail : List ℤ) → above < bound.count
    → slice_get (index_lists rest) place ≡ Some tail → slice_get (index_lists (bound ∷ rest))
    (above * box_size rest + place) ≡ Some ((bound.lower +ℤ pos above) ∷ tail)
unfolding index_lists box_size
member-cons bound rest above place tail h e =
    let begin = λ (t : List ℤ). (bound.lower +ℤ pos (0 + above)) ∷ t in
    at_row bound.lower (index_lists rest) 0 bound.count above place h (slice_get_within (index_lists rest) place tail e)
    ∙ slice_get-map begin (index_lists rest) place ∙ ap (option_map begin) e ∙ ap (λ k. Some ((bound.lower +ℤ pos k) ∷ tail)) (zero-add above)

-- an index list within the bounds is the member at its position
pub member_at : (bounds : List Bound) (index : List ℤ) → InBounds bounds index
    → slice_get (index_lists bounds) (position_of bounds index) ≡ Some index
member_at [] [] h = member-nil
member_at [] (i ∷ index) h = absurd h
member_at (bound ∷ rest) [] h = absurd h
member_at (bound ∷ rest) (i ∷ tail) h =
    let w = IsWithin-above bound i h.0 in
    let P : ℤ → Type 0 = λ j. slice_get (index_lists (bound ∷ rest)) (position_of (bound ∷ rest) (j ∷ tail)) ≡ Some (j ∷ tail) in
    subst P (sym w.1.0) (ap (slice_get (index_lists (bound ∷ rest))) (position_of-cons bound rest w.0 tail w.1.1)
    ∙ member-cons bound rest w.0 (position_of rest tail) tail w.1.1 (member_at rest tail h.1))

found-nil : (index : List ℤ) (place : ℕ) → slice_get (index_lists []) place ≡ Some index → InBounds [] index × (position_of [] index ≡ place)
unfolding index_lists position_of
found-nil [] zero e = (tt, refl)
found-nil (i ∷ index) zero e = absurd cc
found-nil index (suc place) e = absurd (none-some index e)

found-cons : (bound : Bound) (rest : List Bound) (index : List ℤ) (place : ℕ) → slice_get (index_lists (bound ∷ rest)) place ≡ Some index
    → StandsAt bound.lower (index_lists rest) 0 bound.count place index
unfolding index_lists
found-cons bound rest index place e = row_found bound.lower (index_lists rest) 0 bound.count place index e

box_size-members : (bounds : List Bound) → length (index_lists bounds) ≡ box_size bounds
unfolding box_size
box_size-members bounds = refl

found-here : (bound : Bound) (rest : List Bound) (index : List ℤ) (place : ℕ)
    (s : StandsAt bound.lower (index_lists rest) 0 bound.count place index) → InBounds rest s.tail × (position_of rest s.tail ≡ s.below)
    → InBounds (bound ∷ rest) index × (position_of (bound ∷ rest) index ≡ place)
found-here bound rest index place s below =
    let list : index ≡ (bound.lower +ℤ pos s.above) ∷ s.tail = s.list ∙ ap (λ k. (bound.lower +ℤ pos k) ∷ s.tail) (zero-add s.above) in
    let P : List ℤ → Type 0 = λ l. InBounds (bound ∷ rest) l × (position_of (bound ∷ rest) l ≡ place) in
    let size = ap (λ n. s.above * n) (box_size-members rest) in
    subst P (sym list) (
      (IsWithin-at bound s.above s.inside, below.0),
      omega (arith, position_of-cons bound rest s.above s.tail s.inside, below.1, s.place, size),
    )

-- Every index list of the box is within the bounds, at the place that is its position.
pub member_found : (bounds : List Bound) (index : List ℤ) (place : ℕ) → slice_get (index_lists bounds) place ≡ Some index
    → InBounds bounds index × (position_of bounds index ≡ place)
member_found [] index place e = found-nil index place e
member_found (bound ∷ rest) index place e =
    let s = found-cons bound rest index place e in
    found-here bound rest index place s (member_found rest s.tail s.below s.others)

-- two index lists of one box have two positions
pub same_list : (bounds : List Bound) (x y : List ℤ) → InBounds bounds x → InBounds bounds y → position_of bounds x ≡ position_of bounds y
    → x ≡ y
same_list bounds x y hx hy e =
    same_inside x y (sym (member_at bounds x hx) ∙ ap (slice_get (index_lists bounds)) e ∙ member_at bounds y hy)
