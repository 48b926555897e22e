-- The entries of rows in turn, on both sides of a place.
use Rattle.std.proofs.Common.{◌≡◌, ◌∙◌, ◌<◌, ◌≤◌, ◌+◌, ℕ, zero, suc, List, [], ◌∷◌, ◌++◌, Some, Result, Ok, Err, OnErr, length, take, drop, get_or, set}
use Rattle.std.proofs.Common.{slice_get, refl, sym, ap, subst, ⊎_elim, arith}
use Rattle.std.specs.List.{insert, remove}
use Rattle.std.proofs.lemmas.List.{append_assoc, append-nil, take-append-drop, take_all, drop_all, get_or_past, set_split, get_or_default, take-set}
use Rattle.std.proofs.lemmas.List.{drop-set-lt, length-append, length-take-le, length-drop, nil_from_length}
use Rattle.std.proofs.lemmas.List.Concat.{flat_map-append}
use Rattle.std.proofs.lemmas.Bool.{cases_lt}
use Rattle.oa_ordered.specs.Rows.{AreFilled, concat_rows, entries_after, entries_before, from, with_value_at}
use Rattle.oa_ordered.proofs.Keys.{all_append, all_front, all_back}

-- a list from a place on is its entry there, and those behind
pub drop_next : {X : Type 0} (xs : List X) (i : ℕ) (d : X) → i < length xs → drop i xs ≡ get_or xs i d ∷ drop (suc i) xs
drop_next [] i d lt = absurd (omega (arith, lt))
drop_next (x ∷ xs) zero d lt = refl
drop_next (x ∷ xs) (suc i) d lt = drop_next xs i d (omega (arith, lt))

pub parts_at : {X : Type 0} (xs : List X) (i : ℕ) (d : X) → i < length xs → xs ≡ take i xs ++ get_or xs i d ∷ drop (suc i) xs
parts_at xs i d lt = sym (subst (λ r. take i xs ++ r ≡ xs) (drop_next xs i d lt) (take-append-drop i xs))

-- there is an entry at each place
pub some_at : {X : Type 0} (xs : List X) (i : ℕ) → i < length xs → (x : X) × (x ≡ get_or xs i x)
some_at [] i lt = absurd (omega (arith, lt))
some_at (x ∷ xs) zero lt = (x, refl)
some_at (x ∷ xs) (suc i) lt = some_at xs i (omega (arith, lt))

pub get_is : {X : Type 0} (xs : List X) (i : ℕ) (x d : X) → i < length xs → x ≡ get_or xs i d → slice_get xs i ≡ Some x
get_is [] i x d lt is = absurd (omega (arith, lt))
get_is (y ∷ ys) zero x d lt is = rw is refl
get_is (y ∷ ys) (suc i) x d lt is = get_is ys i x d (omega (arith, lt)) is

module _ {K X : Type 0} where
  abbrev pub row_of : List (List (K × X)) → ℕ → List (K × X)
  row_of rows i = get_or rows i []

  -- a row that was read is that one
  pub row_is : (rows : List (List (K × X))) (i : ℕ) (row d : List (K × X)) → i < length rows → row ≡ get_or rows i d → row ≡ row_of rows i
  row_is rows i row d lt is = is ∙ get_or_default rows i d [] lt

  joined_append : (xs ys : List (List (K × X))) → concat_rows (xs ++ ys) ≡ concat_rows xs ++ concat_rows ys
  joined_append xs ys = flat_map-append (λ row. row) xs ys

  -- others in the place of a row
  joined_around : (front : List (List (K × X))) (row : List (K × X)) (back : List (List (K × X)))
      → concat_rows (front ++ row ∷ back) ≡ concat_rows front ++ (row ++ concat_rows back)
  joined_around front row back = joined_append front (row ∷ back)

  pub joined_at : (rows : List (List (K × X))) (i : ℕ) → i < length rows
      → concat_rows rows ≡ concat_rows (take i rows) ++ (row_of rows i ++ concat_rows (drop (suc i) rows))
  joined_at rows i lt = ap concat_rows (parts_at rows i [] lt) ∙ joined_around (take i rows) (row_of rows i) (drop (suc i) rows)

  pub joined_set : (rows : List (List (K × X))) (i : ℕ) (row : List (K × X)) → i < length rows
      → concat_rows (set rows i row) ≡ concat_rows (take i rows) ++ (row ++ concat_rows (drop (suc i) rows))
  joined_set rows i row lt = ap concat_rows (set_split rows i row lt) ∙ joined_around (take i rows) row (drop (suc i) rows)

  -- the parts of a row, between the rows on both sides
  parted : (front xs ys back : List (K × X)) → front ++ ((xs ++ ys) ++ back) ≡ (front ++ xs) ++ (ys ++ back)
  parted front xs ys back = ap (λ es. front ++ es) (append_assoc xs ys back) ∙ sym (append_assoc front xs (ys ++ back))

  whole_in : (rows : List (List (K × X))) (i at : ℕ) → i < length rows → concat_rows rows ≡ entries_before rows i at ++ from rows i at
  whole_in rows i at lt =
      let row = row_of rows i in
      joined_at rows i lt
      ∙ (ap (λ es. concat_rows (take i rows) ++ (es ++ concat_rows (drop (suc i) rows))) (sym (take-append-drop at row))
      ∙ parted (concat_rows (take i rows)) (take at row) (drop at row) (concat_rows (drop (suc i) rows)))

  -- all entries are those before a place and those from it on
  pub whole : (rows : List (List (K × X))) (i at : ℕ) → i ≤ length rows → at ≤ length (row_of rows i)
      → concat_rows rows ≡ entries_before rows i at ++ from rows i at
  whole rows i at le in_row = ⊎_elim (λ lt. whole_in rows i at lt) (λ past. whole_past past) (cases_lt i (length rows))
    where
      whole_past : length rows ≤ i → concat_rows rows ≡ entries_before rows i at ++ from rows i at
      whole_past past =
          let none : row_of rows i ≡ [] = get_or_past rows i [] past in
          let nothing : at ≡ 0 = omega (arith, in_row, ap length none) in
          rw (take_all i rows past, drop_all (suc i) rows (omega (arith, past)), none, nothing)
          (sym (append-nil (concat_rows rows ++ []) ∙ append-nil (concat_rows rows)))

  -- and those from it on are the one at it and those behind
  pub from_at : (rows : List (List (K × X))) (i at : ℕ) (e d : K × X) → at < length (row_of rows i) → e ≡ get_or (row_of rows i) at d
      → from rows i at ≡ e ∷ entries_after rows i at
  from_at rows i at e d lt is =
      let rest : drop at (row_of rows i) ≡ get_or (row_of rows i) at d ∷ drop (suc at) (row_of rows i) = drop_next (row_of rows i) at d lt in
      rw (rest, ← is) refl

  pub entry_split : (rows : List (List (K × X))) (i at : ℕ) (e d : K × X) → i < length rows → at < length (row_of rows i) → e ≡ get_or (row_of rows i) at d
      → concat_rows rows ≡ entries_before rows i at ++ e ∷ entries_after rows i at
  entry_split rows i at e d lt in_row is = whole_in rows i at lt ∙ ap (λ es. entries_before rows i at ++ es) (from_at rows i at e d in_row is)

  -- an entry more, in its row
  pub inserted : (rows : List (List (K × X))) (i at : ℕ) (e : K × X) → i < length rows
      → concat_rows (set rows i (insert (row_of rows i) at e)) ≡ entries_before rows i at ++ e ∷ from rows i at
  inserted rows i at e lt =
      let row = row_of rows i in
      joined_set rows i (insert row at e) lt ∙ parted (concat_rows (take i rows)) (take at row) (e ∷ drop at row) (concat_rows (drop (suc i) rows))

  pub inserted_row : (rows : List (List (K × X))) (i at : ℕ) (e : K × X) (row new d : List (K × X)) → i < length rows → row ≡ get_or rows i d
      → new ≡ insert row at e
      → concat_rows (set rows i new) ≡ entries_before rows i at ++ e ∷ from rows i at
  inserted_row rows i at e row new d lt read is =
      subst (λ r. concat_rows (set rows i r) ≡ entries_before rows i at ++ e ∷ from rows i at)
      (sym (is ∙ ap (λ r. insert r at e) (row_is rows i row d lt read))) (inserted rows i at e lt)

  -- an entry less, in its row
  pub removed : (rows : List (List (K × X))) (i at : ℕ) → i < length rows → concat_rows (set rows i (remove (row_of rows i) at)) ≡ entries_before rows i at
      ++ entries_after rows i at
  removed rows i at lt =
      let row = row_of rows i in
      joined_set rows i (remove row at) lt ∙ parted (concat_rows (take i rows)) (take at row) (drop (suc at) row) (concat_rows (drop (suc i) rows))

  -- another value, in its row
  pub value_at : (es : List (K × X)) (at : ℕ) (e d : K × X) (w : X) → at < length es → e ≡ get_or es at d
      → with_value_at es at w ≡ take at es ++ (e.0, w) ∷ drop (suc at) es
  value_at [] at e d w lt is = absurd (omega (arith, lt))
  value_at (f ∷ es) zero e d w lt is = rw is refl
  value_at (f ∷ es) (suc at) e d w lt is = ap (λ rest. f ∷ rest) (value_at es at e d w (omega (arith, lt)) is)

  pub set_as_value : (es : List (K × X)) (at : ℕ) (e d : K × X) (w : X) → at < length es → e ≡ get_or es at d → set es at (e.0, w) ≡ with_value_at es at w
  set_as_value es at e d w lt is = set_split es at (e.0, w) lt ∙ sym (value_at es at e d w lt is)

  pub length_with_value : (es : List (K × X)) (at : ℕ) (w : X) → length (with_value_at es at w) ≡ length es
  length_with_value [] at w = refl
  length_with_value (e ∷ es) zero w = refl
  length_with_value (e ∷ es) (suc at) w = ap suc (length_with_value es at w)

  pub changed : (rows : List (List (K × X))) (i at : ℕ) (e d : K × X) (w : X) → i < length rows → at < length (row_of rows i) → e ≡ get_or (row_of rows i) at d
      → concat_rows (set rows i (with_value_at (row_of rows i) at w)) ≡ entries_before rows i at ++ (e.0, w) ∷ entries_after rows i at
  changed rows i at e d w lt in_row is =
      let row = row_of rows i in
      joined_set rows i (with_value_at row at w) lt
      ∙ (ap (λ es. concat_rows (take i rows) ++ (es ++ concat_rows (drop (suc i) rows))) (value_at row at e d w in_row is)
      ∙ parted (concat_rows (take i rows)) (take at row) ((e.0, w) ∷ drop (suc at) row) (concat_rows (drop (suc i) rows)))

  -- rows that are filled stay so
  pub filled_row : (rows : List (List (K × X))) (i : ℕ) → i < length rows → AreFilled rows → 0 < length (row_of rows i)
  filled_row rows i lt filled =
      (all_back (λ row. 0 < length row) (take i rows) (row_of rows i ∷ drop (suc i) rows) (subst AreFilled (parts_at rows i [] lt) filled)).0

  pub filled_set : (rows : List (List (K × X))) (i : ℕ) (row : List (K × X)) → i < length rows → 0 < length row → AreFilled rows → AreFilled (set rows i row)
  filled_set rows i row lt some filled =
      let parts = subst AreFilled (parts_at rows i [] lt) filled in
      let P = λ (r : List (K × X)). 0 < length r in
      rw (set_split rows i row lt) (all_append P (take i rows) (row ∷ drop (suc i) rows) (all_front P (take i rows) (row_of rows i ∷ drop (suc i) rows) parts)
      (some, (all_back P (take i rows) (row_of rows i ∷ drop (suc i) rows) parts).1))

  -- a row that is empty may go
  pub joined_dropped : (rows : List (List (K × X))) (i : ℕ) (row : List (K × X)) → i < length rows → length row ≡ 0
      → concat_rows (remove (set rows i row) i) ≡ concat_rows (set rows i row)
  joined_dropped rows i row lt none =
      let empty : row ≡ [] = nil_from_length row none in
      rw (take-set rows i row, drop-set-lt (suc i) rows i row (omega arith), joined_set rows i row lt, empty) (joined_append (take i rows) (drop (suc i) rows))

  pub filled_dropped : (rows : List (List (K × X))) (i : ℕ) (row : List (K × X)) → i < length rows → AreFilled rows → AreFilled (remove (set rows i row) i)
  filled_dropped rows i row lt filled =
      let parts = subst AreFilled (parts_at rows i [] lt) filled in
      let P = λ (r : List (K × X)). 0 < length r in
      rw (take-set rows i row, drop-set-lt (suc i) rows i row (omega arith))
      (all_append P (take i rows) (drop (suc i) rows) (all_front P (take i rows) (row_of rows i ∷ drop (suc i) rows) parts)
      (all_back P (take i rows) (row_of rows i ∷ drop (suc i) rows) parts).1)

  -- behind the last entry there is nothing
  pub nothing_past_rows : (rows : List (List (K × X))) (i at : ℕ) → i ≡ length rows → from rows i at ≡ []
  nothing_past_rows rows i at past =
      let gone : drop at (row_of rows i) ≡ [] = drop_all at (row_of rows i) (omega (arith, ap length (get_or_past rows i [] (omega (arith, past))))) in
      rw (drop_all (suc i) rows (omega (arith, past)), gone) refl

  pub nothing_past_last : (rows : List (List (K × X))) (i at : ℕ) (d : List (K × X)) → i + 1 ≡ length rows → at ≡ length (get_or rows i d) → from rows i at ≡ []
  nothing_past_last rows i at d last past =
      let same : get_or rows i d ≡ row_of rows i = get_or_default rows i d [] (omega (arith, last)) in
      rw (drop_all (suc i) rows (omega (arith, last)), drop_all at (row_of rows i) (omega (arith, past, ap length same))) refl

  pub put_last : (rows : List (List (K × X))) (i at : ℕ) (e : K × X) (es : List (K × X)) → i ≤ length rows → at ≤ length (row_of rows i) → from rows i at ≡ []
      → es ≡ concat_rows rows ++ e ∷ []
      → es ≡ entries_before rows i at ++ e ∷ from rows i at
  put_last rows i at e es le in_row none is =
      let all : concat_rows rows ≡ entries_before rows i at = whole rows i at le in_row
      ∙ (ap (λ rest. entries_before rows i at ++ rest) none ∙ append-nil (entries_before rows i at)) in
      rw none (is ∙ ap (λ front. front ++ e ∷ []) all)

  -- a row in two parts
  pub halved : (rows new : List (List (K × X))) (i h : ℕ) → i < length rows → new ≡ take i rows ++ take h (row_of rows i) ∷ drop h (row_of rows i) ∷ drop
      (suc i) rows → concat_rows new ≡ concat_rows rows
  halved rows new i h lt is =
      let row = row_of rows i in
      ap concat_rows is ∙ (joined_append (take i rows) (take h row ∷ drop h row ∷ drop (suc i) rows)
      ∙ (ap (λ es. concat_rows (take i rows) ++ es)
      (sym (append_assoc (take h row) (drop h row) (concat_rows (drop (suc i) rows))) ∙ ap (λ es. es ++ concat_rows (drop (suc i) rows))
      (take-append-drop h row))
      ∙ sym (joined_at rows i lt)))

  pub halved_filled : (rows new : List (List (K × X))) (i h : ℕ) → i < length rows → 0 < h → h < length (row_of rows i) → AreFilled rows
      → new ≡ take i rows ++ take h (row_of rows i) ∷ drop h (row_of rows i) ∷ drop (suc i) rows → AreFilled new
  halved_filled rows new i h lt some less filled is =
      let row = row_of rows i in
      let P = λ (r : List (K × X)). 0 < length r in
      let parts = subst AreFilled (parts_at rows i [] lt) filled in
      let lower : 0 < length (take h row) = omega (arith, length-take-le h row (omega (arith, less)), some) in
      let upper : 0 < length (drop h row) = omega (arith, length-drop h row, less) in
      rw is (all_append P (take i rows) (take h row ∷ drop h row ∷ drop (suc i) rows) (all_front P (take i rows) (row ∷ drop (suc i) rows) parts)
      (lower, (upper, (all_back P (take i rows) (row ∷ drop (suc i) rows) parts).1)))

  -- there are no entries where there are no rows
  pub no_rows : (rows : List (List (K × X))) (n : ℕ) → AreFilled rows → n ≡ length rows → (n ≡ 0 → concat_rows rows ≡ []) × (concat_rows rows ≡ [] → n ≡ 0)
  no_rows [] n filled is = (λ none. refl, λ none. is)
  no_rows ([] ∷ rows) n filled is = absurd (omega (arith, filled.0))
  no_rows ((e ∷ es) ∷ rows) n filled is = (λ none. absurd (omega (arith, none, is)), λ none. absurd (omega (arith, ap length none)))

  -- rows in two parts
  pub parted_rows : (rows lower upper : List (List (K × X))) (at : ℕ) → lower ≡ take at rows → upper ≡ drop at rows
      → concat_rows lower ++ concat_rows upper ≡ concat_rows rows
  parted_rows rows lower upper at is cuts = rw (is, cuts) (sym (joined_append (take at rows) (drop at rows)) ∙ ap concat_rows (take-append-drop at rows))

  pub filled_rest : (rows upper : List (List (K × X))) (at : ℕ) → at < length rows → AreFilled rows → upper ≡ drop at rows → 0 < length (concat_rows upper)
  filled_rest rows upper at lt filled is =
      rw (is, drop_next rows at [] lt) (omega (arith, filled_row rows at lt filled, length-append (row_of rows at) (concat_rows (drop (suc at) rows))))

  -- and one of them in two
  split_there : (rows : List (List (K × X))) (i : ℕ) (lower upper : List (K × X)) → i < length rows → lower ++ upper ≡ row_of rows i
      → concat_rows (insert (set rows i lower) (suc i) upper) ≡ concat_rows rows
  split_there [] i lower upper lt is = absurd (omega (arith, lt))
  split_there (row ∷ rows) zero lower upper lt is = sym (append_assoc lower upper (concat_rows rows)) ∙ ap (λ es. es ++ concat_rows rows) is
  split_there (row ∷ rows) (suc i) lower upper lt is = ap (λ es. row ++ es) (split_there rows i lower upper (omega (arith, lt)) is)

  pub split_at : (rows : List (List (K × X))) (i next : ℕ) (lower upper : List (K × X)) → next ≡ suc i → i < length rows → lower ++ upper ≡ row_of rows i
      → concat_rows (insert (set rows i lower) next upper) ≡ concat_rows rows
  split_at rows i next lower upper behind lt is = rw behind (split_there rows i lower upper lt is)

-- what holds is said of a refusal too
pub on_err_always : {T E P : Type 0} (r : Result T E) → P → OnErr r P
on_err_always (Ok x) p = tt
on_err_always (Err e) p = p
