-- One place of a row is filled or emptied at either end of its values.
use Rattle.std.proofs.Common.{◌≡◌, refl, sym, ap, ◌∙◌, ℕ, zero, suc, ◌+◌, ◌<◌, ◌≤◌, ◌-◌, List, [], ◌∷◌, ◌++◌, length, arith}
use Rattle.std.specs.Prelude.{map, replicate, get_or, slice_set, Option, Some, None}
use Rattle.std.proofs.lemmas.List.{append_assoc, append-nil, set_at, get_or_at, length-append, length-map, length-replicate, map-append}
use Rattle.std.proofs.lemmas.List.{replicate-append-replicate}
use Rattle.oa_cells.specs.Windows.{values, window_row}

module _ {X : Type 0} where
  pub values-laid : (before : ℕ) (xs : List X) (after : ℕ) → values (window_row before xs after) ≡ xs
  unfolding window_row
  values-laid (suc before) xs after = values-laid before xs after
  values-laid zero (x ∷ xs) after = ap (λ l. x ∷ l) (values-laid zero xs after)
  values-laid zero [] (suc after) = values-laid zero [] after
  values-laid zero [] zero = refl

  -- a row that is laid so is laid so with the values that are read from it
  pub is_laid : (slots : List (Option X)) (before : ℕ) (xs : List X) (after : ℕ) → slots ≡ window_row before xs after
      → (values slots ≡ xs) × (slots ≡ window_row before (values slots) after)
  is_laid slots before xs after e = let read = ap values e ∙ values-laid before xs after in (read, e ∙ ap (λ l. window_row before l after) (sym read))

  -- an empty place
  abbrev empty : Option X
  empty = None

  pub empty_laid : (len before after : ℕ) → len ≡ before + after → replicate len empty ≡ window_row before [] after
  unfolding window_row
  empty_laid len before after e = ap (λ n. replicate n empty) e ∙ sym (replicate-append-replicate before after empty)

  pub full_laid : (xs : List X) → map Some xs ≡ window_row 0 xs 0
  unfolding window_row
  full_laid xs = sym (append-nil (map Some xs))

  pub length-laid : (before : ℕ) (xs : List X) (after : ℕ) → length (window_row before xs after) ≡ before + length xs + after
  unfolding window_row
  length-laid before xs after = let none = replicate after empty in
      omega (
        arith,
        length-append (replicate before empty) (map Some xs ++ none),
        length-append (map Some xs) none,
        length-map xs Some,
        length-replicate before empty,
        length-replicate after empty,
      )

  -- ---- the places at either end

  -- the places up to the end of the values
  abbrev front : ℕ → List X → List (Option X)
  front before xs = replicate before None ++ map Some xs

  length-front : (before : ℕ) (xs : List X) → length (front before xs) ≡ before + length xs
  length-front before xs = omega (arith, length-append (replicate before empty) (map Some xs), length-map xs Some, length-replicate before empty)

  behind : (before : ℕ) (xs : List X) (after : ℕ) → window_row before xs (suc after) ≡ front before xs ++ None ∷ replicate after None
  unfolding window_row
  behind before xs after = sym (append_assoc (replicate before empty) (map Some xs) (None ∷ replicate after None))

  last : (before : ℕ) (xs : List X) (x : X) (after : ℕ)
      → window_row before (xs ++ x ∷ []) after ≡ front before xs ++ Some x ∷ replicate after None
  unfolding window_row
  last before xs x after = let none = replicate before None in let rest = replicate after None in
      ap (λ l. none ++ (l ++ rest)) (map-append Some xs (x ∷ [])) ∙ ap (λ l. none ++ l) (append_assoc (map Some xs) (Some x ∷ []) rest)
      ∙ sym (append_assoc none (map Some xs) (Some x ∷ rest))

  one_less : (n : ℕ) (ys : List (Option X)) → replicate (suc n) None ++ ys ≡ replicate n None ++ None ∷ ys
  one_less zero ys = refl
  one_less (suc n) ys = ap (λ l. None ∷ l) (one_less n ys)

  ahead : (before : ℕ) (xs : List X) (after : ℕ)
      → window_row (suc before) xs after ≡ replicate before None ++ None ∷ (map Some xs ++ replicate after None)
  unfolding window_row
  ahead before xs after = one_less before (map Some xs ++ replicate after None)

  -- ---- a place is written or read

  module _ (slots : List (Option X)) (b : ℕ) (xs : List X) (x : X) (a n i : ℕ) where
    pub empty_behind : slots ≡ window_row b xs n → n ≡ suc a → i ≡ b + length xs → get_or slots i None ≡ None
    empty_behind e f at = ap (λ l. get_or l i None) (e ∙ ap (window_row b xs) f ∙ behind b xs a) ∙ get_or_at (front b xs) None (replicate a None) None i
        (length-front b xs ∙ sym at)

    pub put_behind : slots ≡ window_row b xs n → n ≡ suc a → i ≡ b + length xs → slice_set slots i (Some x) ≡ window_row b (xs ++ x ∷ []) a
    put_behind e f at = ap (λ l. slice_set l i (Some x)) (e ∙ ap (window_row b xs) f ∙ behind b xs a) ∙ set_at (front b xs) None (replicate a None) (Some x) i
        (length-front b xs ∙ sym at) ∙ sym (last b xs x a)

    pub value_last : slots ≡ window_row b (xs ++ x ∷ []) a → i ≡ b + length xs → get_or slots i None ≡ Some x
    value_last e at = ap (λ l. get_or l i None) (e ∙ last b xs x a) ∙ get_or_at (front b xs) (Some x) (replicate a None) None i (length-front b xs ∙ sym at)

    pub take_last : slots ≡ window_row b (xs ++ x ∷ []) a → n ≡ suc a → i ≡ b + length xs → slice_set slots i None ≡ window_row b xs n
    take_last e f at = ap (λ l. slice_set l i None) (e ∙ last b xs x a) ∙ set_at (front b xs) (Some x) (replicate a None) None i (length-front b xs ∙ sym at)
        ∙ sym (ap (window_row b xs) f ∙ behind b xs a)

  module _ (slots : List (Option X)) (b n : ℕ) (xs : List X) (x : X) (a : ℕ) where
    pub empty_ahead : slots ≡ window_row n xs a → n ≡ suc b → get_or slots b None ≡ None
    empty_ahead e f = ap (λ l. get_or l b None) (e ∙ ap (λ k. window_row k xs a) f ∙ ahead b xs a)
        ∙ get_or_at (replicate b None) None (map Some xs ++ replicate a None) None b (length-replicate b empty)

    pub put_ahead : slots ≡ window_row n xs a → n ≡ suc b → slice_set slots b (Some x) ≡ window_row b (x ∷ xs) a
    unfolding window_row
    put_ahead e f = ap (λ l. slice_set l b (Some x)) (e ∙ ap (λ k. window_row k xs a) f ∙ ahead b xs a)
        ∙ set_at (replicate b None) None (map Some xs ++ replicate a None) (Some x) b (length-replicate b empty)

  -- a list that has members ends in one
  pub split_last : (xs : List X) → 0 < length xs → (front : List X) × (x : X) × (xs ≡ front ++ x ∷ [])
  split_last [] h = absurd (omega (arith, h))
  split_last (x ∷ []) h = ([], x, refl)
  split_last (x ∷ y ∷ xs) h = let more = split_last (y ∷ xs) (omega arith) in (x ∷ more.0, more.1, ap (λ l. x ∷ l) more.2)

  abbrev unwrapped : X → Option X → X
  unwrapped d None = d
  unwrapped d (Some x) = x

  -- ---- A block of `len` places, whose values are at the indices from `from` to below `to`.
  module _ (row : List (Option X)) (from to len : ℕ) (count : from + length (values row) ≡ to) (fits : to ≤ len)
      (shape : row ≡ window_row from (values row) (len - to)) where
    pub length-row : length row ≡ len
    length-row = let all : length row ≡ from + length (values row) + (len - to) = ap length shape ∙ length-laid from (values row) (len - to) in
        omega (arith, all, count, fits)

    pub pushed_back : (new : List (Option X)) (x : X) → 0 < len - to → new ≡ slice_set row to (Some x)
        → (values new ≡ values row ++ x ∷ []) × (new ≡ window_row from (values new) (len - (to + 1)))
    pushed_back new x room e =
        is_laid new from (values row ++ x ∷ []) (len - (to + 1))
        (e ∙ put_behind row from (values row) x (len - (to + 1)) (len - to) to shape (omega (arith, room)) (sym count))

    pub pushed_front : (new : List (Option X)) (x : X) → 0 < from → new ≡ slice_set row (from - 1) (Some x)
        → (values new ≡ x ∷ values row) × (new ≡ window_row (from - 1) (values new) (len - to))
    pushed_front new x room e =
        is_laid new (from - 1) (x ∷ values row) (len - to) (e ∙ put_ahead row (from - 1) from (values row) x (len - to) shape (omega (arith, room)))

    pub last_value : 0 < length (values row) → (x : X) × (get_or row (to - 1) None ≡ Some x)
    last_value some =
        let parts = split_last (values row) some in
        let long : length (values row) ≡ length parts.0 + 1 = ap length parts.2 ∙ length-append parts.0 (parts.1 ∷ []) in (
          parts.1,
          value_last row from parts.0 parts.1 (len - to) 0 (to - 1) (shape ∙ ap (λ l. window_row from l (len - to)) parts.2)
              (omega (arith, long, count)),
        )

    pub popped : (new : List (Option X)) (x : X) → 0 < length (values row) → get_or row (to - 1) None ≡ Some x
        → new ≡ slice_set row (to - 1) None → (values row ≡ values new ++ x ∷ []) × (new ≡ window_row from (values new) (len - (to - 1)))
    popped new x some read e =
        let parts : (front : List X) × (x : X) × (values row ≡ front ++ x ∷ []) = split_last (values row) some in let before = parts.0 in
        let long : length (values row) ≡ length before + 1 = ap length parts.2 ∙ length-append before (parts.1 ∷ []) in
        let laid_so : row ≡ window_row from (before ++ parts.1 ∷ []) (len - to) = shape ∙ ap (λ l. window_row from l (len - to)) parts.2 in
        let at : to - 1 ≡ from + length before = omega (arith, long, count) in
        let one_more : len - (to - 1) ≡ suc (len - to) = omega (arith, long, count, fits) in
        let same : parts.1 ≡ x = ap (unwrapped x) (sym (value_last row from before parts.1 (len - to) 0 (to - 1) laid_so at) ∙ read) in
        let rest = is_laid new from before (len - (to - 1)) (e ∙ take_last row from before parts.1 (len - to) (len - (to - 1)) (to - 1) laid_so one_more at) in
        (parts.2 ∙ ap (λ y. before ++ y ∷ []) same ∙ ap (λ l. l ++ x ∷ []) (sym rest.0), rest.1)

    pub row_of_full : from ≡ 0 → len - to ≡ 0 → row ≡ map Some (values row)
    row_of_full e f = shape ∙ ap (λ n. window_row n (values row) (len - to)) e ∙ ap (window_row 0 (values row)) f ∙ sym (full_laid (values row))

    pub row_of_empty : values row ≡ [] → row ≡ replicate len None
    row_of_empty e = let none : length (values row) ≡ 0 = ap length e in
        shape ∙ ap (λ l. window_row from l (len - to)) e ∙ sym (empty_laid len from (len - to) (omega (arith, none, count, fits)))

  pub row_of_vacant : (row : List (Option X)) (at len : ℕ) → at ≤ len → row ≡ replicate len None
      → (values row ≡ []) × (row ≡ window_row at (values row) (len - at))
  row_of_vacant row at len le e = is_laid row at [] (len - at) (e ∙ empty_laid len at (len - at) (omega (arith, le)))
