-- Where a key is in rows that are in order, and what calls of a map do there.
use Rattle.std.proofs.Common.{◌≡◌, ◌∙◌, ◌<◌, ◌≤◌, ◌+◌, ◌-◌, ◌/◌, ℕ, suc, List, [], ◌∷◌, ◌++◌, Bool, true, false, Some, None, length, take, drop, get_or, set}
use Rattle.std.proofs.Common.{slice_get, refl, sym, ap, subst, ⊎_elim, arith}
use mathlib.Core.Bool.{true≢false}
use Rattle.std.specs.Option.{option_map}
use Rattle.std.specs.Map.{lookup, remove_entry, set_value}
use Rattle.std.specs.BTreeMap.{insert_entry, is_at}
use Rattle.std.specs.Ordering.{is_lt}
use Rattle.std.specs.Cmp.{IsTotalOrder}
use Rattle.std.specs.declared.cmp.Ordering.{Ordering}
use Rattle.std.specs.declared.cmp.Ordering.TheVariants.{Less, Equal, Greater}
use Rattle.std.proofs.lemmas.List.{append-nil, append_cancel_left, drop_all, get_or_past, take_more}
use Rattle.std.proofs.lemmas.Bool.{cases_lt}
use Rattle.oa_ordered.specs.Rows.{AllAbove, AllBelow, AreFilled, AreOrdered, IsFirst, IsFound, IsFoundIn, IsGap, IsGapIn, IsOrdered, IsRowFor, begins_after}
use Rattle.oa_ordered.specs.Rows.{concat_rows, entries_after, entries_before, from, with_value_at}
use Rattle.oa_ordered.proofs.Keys.{above_of, all_append, below_of, ordered_back, ordered_front}
use Rattle.oa_ordered.proofs.Split.{insert_gap, insert_here, lookup_gap, lookup_here, remove_gap, remove_here, set_gap, set_here}
use Rattle.oa_ordered.proofs.Joined.{changed, drop_next, entry_split, filled_row, filled_set, from_at, get_is, joined_at, length_with_value, parts_at, row_is}
use Rattle.oa_ordered.proofs.Joined.{row_of, some_at, whole}

less_from_test : (r : Ordering) → is_lt r ≡ true → r ≡ Less
less_from_test Less h = refl
less_from_test Equal h = absurd (true≢false (sym h))
less_from_test Greater h = absurd (true≢false (sym h))

module _ {K X : Type 0} (cmp : K → K → Ordering) (key : K) where
  -- the key is in a row from low on and below high, if in any
  pub record IsBetween (rows : List (List (K × X))) (low high : ℕ) : Type 0 where
    pub rises : low ≤ high
    pub one : 0 < length rows → low < high
    pub inside : high ≤ length rows
    pub below : AllBelow cmp key (concat_rows (take low rows))
    pub above : AllAbove cmp key (concat_rows (drop high rows))

module _ {K X : Type 0} (cmp : K → K → Ordering) (total : IsTotalOrder cmp) (key : K) where
  -- among the entries of one row
  module _ (es : List (K × X)) (rises : IsOrdered cmp es) (m : ℕ) (lt : m < length es) (e d : K × X) (is : e ≡ get_or es m d) where
    split : es ≡ take m es ++ e ∷ drop (suc m) es
    split = subst (λ x. es ≡ take m es ++ x ∷ drop (suc m) es) (sym is) (parts_at es m d lt)

    rest : drop m es ≡ e ∷ drop (suc m) es
    rest = subst (λ x. drop m es ≡ x ∷ drop (suc m) es) (sym is) (drop_next es m d lt)

    in_parts : IsOrdered cmp (take m es ++ e ∷ drop (suc m) es)
    in_parts = subst (IsOrdered cmp) split rises

    pub above_from : Less ≡ cmp key e.0 → AllAbove cmp key (drop m es)
    above_from less = rw rest (above_of cmp total key e (drop (suc m) es) (ordered_back cmp (take m es) (e ∷ drop (suc m) es) in_parts) (sym less))

    pub found_at : Equal ≡ cmp key e.0 → IsFoundIn cmp key es m
    found_at same = record {
      place = lt;
      below = below_of cmp total key (take m es) e (drop (suc m) es) in_parts (ap is_lt (sym same));
      here = rw rest (sym same);
    }

    pub below_through : Greater ≡ cmp key e.0 → AllBelow cmp key (take (m + 1) es)
    below_through greater =
        let more : take (m + 1) es ≡ take m es ++ e ∷ [] = subst (λ x. take (m + 1) es ≡ take m es ++ x ∷ []) (sym is) (take_more es m d lt) in
        rw more (all_append (λ (x : K × X). cmp key x.0 ≡ Greater) (take m es) (e ∷ [])
        (below_of cmp total key (take m es) e (drop (suc m) es) in_parts (ap is_lt (sym greater))) (sym greater, tt))

  begins_above : (row others : List (K × X)) → IsOrdered cmp (row ++ others) → begins_after cmp key row ≡ true → AllAbove cmp key (row ++ others)
  begins_above [] others rises test = absurd (true≢false (sym test))
  begins_above (e ∷ es) others rises test = above_of cmp total key e (es ++ others) rises (less_from_test (cmp key e.0) test)

  begins_below : (front row others : List (K × X)) → IsOrdered cmp (front ++ (row ++ others)) → 0 < length row → begins_after cmp key row ≡ false
      → AllBelow cmp key front
  begins_below front [] others rises some test = absurd (omega (arith, some))
  begins_below front (e ∷ es) others rises some test = below_of cmp total key front e (es ++ others) rises test

  -- among the rows
  module _ (rows : List (List (K × X))) (rises : IsOrdered cmp (concat_rows rows)) (m : ℕ) (lt : m < length rows) where
    in_rows : IsOrdered cmp (concat_rows (take m rows) ++ (row_of rows m ++ concat_rows (drop (suc m) rows)))
    in_rows = subst (IsOrdered cmp) (joined_at rows m lt) rises

    pub row_ordered : IsOrdered cmp (row_of rows m)
    row_ordered = ordered_front cmp (row_of rows m) (concat_rows (drop (suc m) rows))
        (ordered_back cmp (concat_rows (take m rows)) (row_of rows m ++ concat_rows (drop (suc m) rows)) in_rows)

    -- by where that row, as it was read, begins
    module _ (read d : List (K × X)) (is : read ≡ get_or rows m d) where
      begins : (b : Bool) → b ≡ begins_after cmp key read → begins_after cmp key (row_of rows m) ≡ b
      begins b test = sym (subst (λ row. b ≡ begins_after cmp key row) (row_is rows m read d lt is) test)

      pub rows_above : true ≡ begins_after cmp key read → AllAbove cmp key (concat_rows (drop m rows))
      rows_above test =
          rw (drop_next rows m [] lt) (begins_above (row_of rows m) (concat_rows (drop (suc m) rows))
          (ordered_back cmp (concat_rows (take m rows)) (row_of rows m ++ concat_rows (drop (suc m) rows)) in_rows) (begins true test))

      pub rows_below : AreFilled rows → false ≡ begins_after cmp key read → AllBelow cmp key (concat_rows (take m rows))
      rows_below filled test = begins_below (concat_rows (take m rows)) (row_of rows m) (concat_rows (drop (suc m) rows)) in_rows (filled_row rows m lt filled)
          (begins false test)

  -- the key's row is in one of both halves, by where the row in the middle begins
  module _ (rows : List (List (K × X))) (in_order : AreOrdered cmp rows) (low high : ℕ) (between : IsBetween cmp key rows low high) (more : 1 < high - low)
      (read d : List (K × X)) (is : read ≡ get_or rows (low + (high - low) / 2) d) where
    abbrev pub middle : ℕ
    middle = low + (high - low) / 2

    is_row : middle < length rows
    is_row = omega (arith, between.inside, more)

    pub lower_half : true ≡ begins_after cmp key read → IsBetween cmp key rows low middle
    lower_half test = record {
      rises = omega arith;
      one = λ some. omega (arith, more);
      inside = omega (arith, is_row);
      below = between.below;
      above = rows_above rows in_order.ordered middle is_row read d is test;
    }

    pub upper_half : false ≡ begins_after cmp key read → IsBetween cmp key rows middle high
    upper_half test = record {
      rises = omega (arith, more);
      one = λ some. omega (arith, more);
      inside = between.inside;
      below = rows_below rows in_order.ordered middle is_row read d is in_order.filled test;
      above = between.above;
    }

  pub row_for_all : (rows : List (List (K × X))) (low high : ℕ) → IsBetween cmp key rows low high → high ≤ low + 1 → IsRowFor cmp key rows low
  row_for_all rows low high between near = record {
    place = omega (arith, between.rises, between.inside);
    one = λ some. omega (arith, between.one some, between.inside);
    below = between.below;
    above = ⊎_elim
        (λ more. subst (λ n. AllAbove cmp key (concat_rows (drop n rows))) (next more) between.above)
        (λ past. rw (drop_all (suc low) rows past) tt)
        (cases_lt (suc low) (length rows));
  }
    where
      next : suc low < length rows → high ≡ suc low
      next more = omega (arith, between.one (omega (arith, more)), near)

  module _ (rows : List (List (K × X))) (row : ℕ) (of : IsRowFor cmp key rows row) where
    pub found_in_rows : (at : ℕ) → row < length rows → IsFoundIn cmp key (row_of rows row) at → IsFound cmp key rows row at
    found_in_rows at lt found = record {
      in_rows = lt;
      in_row = found.place;
      below = all_append (λ (x : K × X). cmp key x.0 ≡ Greater) (concat_rows (take row rows)) (take at (row_of rows row)) of.below found.below;
      here = first_of (drop at (row_of rows row)) (concat_rows (drop (suc row) rows)) found.here;
    }
      where
        first_of : (xs ys : List (K × X)) → IsFirst cmp key xs → IsFirst cmp key (xs ++ ys)
        first_of [] ys here = absurd here
        first_of (x ∷ xs) ys here = here

    pub gap_in_rows : (at : ℕ) → row < length rows → IsGapIn cmp key (row_of rows row) at → IsGap cmp key rows row at
    gap_in_rows at lt gap = record {
      in_rows = of.place;
      in_row = gap.place;
      below = all_append (λ (x : K × X). cmp key x.0 ≡ Greater) (concat_rows (take row rows)) (take at (row_of rows row)) of.below gap.below;
      above = all_append (λ (x : K × X). cmp key x.0 ≡ Less) (drop at (row_of rows row)) (concat_rows (drop (suc row) rows)) gap.above of.above;
    }

    pub gap_past_rows : length rows ≤ row → IsGap cmp key rows row 0
    gap_past_rows past = record {
      in_rows = of.place;
      in_row = omega arith;
      below = rw (append-nil (concat_rows (take row rows))) of.below;
      above = rw (get_or_past rows row [] past) of.above;
    }

  -- where an entry has the key, it is found
  pub found_there : (rows : List (List (K × X))) → IsOrdered cmp (concat_rows rows) → (row at : ℕ) (e d : K × X) → row < length rows
      → at < length (row_of rows row) → e ≡ get_or (row_of rows row) at d
      → cmp key e.0 ≡ Equal → IsFound cmp key rows row at
  found_there rows rises row at e d lt in_row is same = record {
    in_rows = lt;
    in_row = in_row;
    below = below_of cmp total key (entries_before rows row at) e (entries_after rows row at)
        (subst (IsOrdered cmp) (entry_split rows row at e d lt in_row is) rises) (ap is_lt same);
    here = rw (from_at rows row at e d in_row is) same;
  }

  -- Calls look for the key in the rows as a slice. Where it was found, in the row as it was read there:
  module _ (rows : List (List (K × X))) {seen : List (List (K × X))} (same : seen ≡ rows) (row at : ℕ) (place : IsFound cmp key seen row at)
      (read d : List (K × X)) (is : read ≡ get_or rows row d) where
    there : IsFound cmp key rows row at
    there = subst (λ all. IsFound cmp key all row at) same place

    its_row : read ≡ row_of rows row
    its_row = row_is rows row read d there.in_rows is

    entry : (e : K × X) × (e ≡ get_or (row_of rows row) at e)
    entry = some_at (row_of rows row) at there.in_row

    entry_parts : concat_rows rows ≡ entries_before rows row at ++ entry.0 ∷ entries_after rows row at
    entry_parts = entry_split rows row at entry.0 entry.0 there.in_rows there.in_row entry.1

    here : cmp key entry.0.0 ≡ Equal
    here = subst (IsFirst cmp key) (from_at rows row at entry.0 entry.0 there.in_row entry.1) there.here

    entry_changed : (w : X) → concat_rows (set rows row (with_value_at read at w)) ≡ entries_before rows row at ++ (entry.0.0, w) ∷ entries_after rows row at
    entry_changed w = ap (λ all. concat_rows (set rows row (with_value_at all at w))) its_row
        ∙ changed rows row at entry.0 entry.0 w there.in_rows there.in_row entry.1

    -- what stands there is what a look-up finds
    pub found_read : option_map (λ e. e.1) (slice_get read at) ≡ lookup (is_at (cmp key)) (concat_rows rows)
    found_read =
        let looked_up : lookup (is_at (cmp key)) (concat_rows rows) ≡ Some entry.0.1 =
        rw entry_parts (lookup_here cmp key entry.0 (entries_after rows row at) here (entries_before rows row at) there.below) in
        ap (λ all. option_map (λ e. e.1) (slice_get all at)) its_row
        ∙ (ap (option_map (λ e. e.1)) (get_is (row_of rows row) at entry.0 entry.0 there.in_row entry.1) ∙ sym looked_up)

    pub found_lookup : (e x : K × X) → e ≡ get_or read at x → lookup (is_at (cmp key)) (concat_rows rows) ≡ Some e.1
    found_lookup e x at_place = sym found_read
        ∙ ap (option_map (λ y. y.1)) (get_is read at e x (subst (λ all. at < length all) (sym its_row) there.in_row) at_place)

    -- and with another value
    pub found_set : (w : X) → concat_rows (set rows row (with_value_at read at w)) ≡ set_value (is_at (cmp key)) (concat_rows rows) w
    found_set w = entry_changed w ∙ sym (rw entry_parts (set_here cmp key entry.0 (entries_after rows row at) here (entries_before rows row at) w there.below))

    pub found_insert : (w : X) → concat_rows (set rows row (with_value_at read at w)) ≡ insert_entry cmp (concat_rows rows) key w
    found_insert w = entry_changed w
        ∙ sym (rw entry_parts (insert_here cmp key entry.0 (entries_after rows row at) here (entries_before rows row at) w there.below))

    pub filled_changed : AreFilled rows → (w : X) → AreFilled (set rows row (with_value_at read at w))
    filled_changed filled w = filled_set rows row (with_value_at read at w) there.in_rows
        (rw its_row (omega (arith, length_with_value (row_of rows row) at w, there.in_row))) filled

  -- where the entries are parted at an entry, the key's place is that one's
  module _ (rows : List (List (K × X))) {seen : List (List (K × X))} (same : seen ≡ rows) (row at : ℕ) (place : IsFound cmp key seen row at) (e : K × X)
      (parts : concat_rows rows ≡ entries_before rows row at ++ e ∷ entries_after rows row at) where
    parted_at : IsFound cmp key rows row at
    parted_at = subst (λ all. IsFound cmp key all row at) same place

    parted_here : cmp key e.0 ≡ Equal
    parted_here =
        let both = sym (whole rows row at (omega (arith, parted_at.in_rows)) (omega (arith, parted_at.in_row))) ∙ parts in
        subst (IsFirst cmp key) (append_cancel_left (entries_before rows row at) (from rows row at) (e ∷ entries_after rows row at) both) parted_at.here

    pub parted_lookup : lookup (is_at (cmp key)) (concat_rows rows) ≡ Some e.1
    parted_lookup = rw parts (lookup_here cmp key e (entries_after rows row at) parted_here (entries_before rows row at) parted_at.below)

    pub parted_remove : remove_entry (is_at (cmp key)) (concat_rows rows) ≡ entries_before rows row at ++ entries_after rows row at
    parted_remove = rw parts (remove_here cmp key e (entries_after rows row at) parted_here (entries_before rows row at) parted_at.below)

  -- and where it would stand
  module _ (rows : List (List (K × X))) {seen : List (List (K × X))} (same : seen ≡ rows) (row at : ℕ) (place : IsGap cmp key seen row at) where
    gap_there : IsGap cmp key rows row at
    gap_there = subst (λ all. IsGap cmp key all row at) same place

    gap_split : concat_rows rows ≡ entries_before rows row at ++ from rows row at
    gap_split = whole rows row at gap_there.in_rows gap_there.in_row

    pub gap_lookup : lookup (is_at (cmp key)) (concat_rows rows) ≡ None
    gap_lookup = rw gap_split (lookup_gap cmp key (entries_before rows row at) (from rows row at) gap_there.below gap_there.above)

    pub gap_remove : remove_entry (is_at (cmp key)) (concat_rows rows) ≡ concat_rows rows
    gap_remove = rw gap_split (remove_gap cmp key (entries_before rows row at) (from rows row at) gap_there.below gap_there.above)

    pub gap_set : (w : X) → set_value (is_at (cmp key)) (concat_rows rows) w ≡ concat_rows rows
    gap_set w = rw gap_split (set_gap cmp key (entries_before rows row at) (from rows row at) w gap_there.below gap_there.above)

    pub gap_insert : (v : X) → entries_before rows row at ++ (key, v) ∷ from rows row at ≡ insert_entry cmp (concat_rows rows) key v
    gap_insert v = sym (rw gap_split (insert_gap cmp key (entries_before rows row at) v (from rows row at) gap_there.below gap_there.above))
