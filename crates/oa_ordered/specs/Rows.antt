-- Entries in rows, and places in them.
use Rattle.std.specs.Prelude.{◌≡◌, ◌<◌, ◌≤◌, ℕ, zero, suc, Bool, false, List, [], ◌∷◌, ◌++◌, length, take, drop}
use Rattle.std.specs.Prelude.{slice_index_or}
use Rattle.std.specs.List.{flat_map, AllByRecursion}
use Rattle.std.specs.List.Sorted.{IsStrictlySortedBy}
use Rattle.std.specs.Map.{keys_of}
use Rattle.std.specs.Ordering.{is_lt}
use Rattle.std.specs.declared.cmp.Ordering.{Ordering}
use Rattle.std.specs.declared.cmp.Ordering.TheVariants.{Less, Equal, Greater}

module _ {K X : Type 0} where
  -- the entries of the rows, one row after the other
  abbrev pub concat_rows : List (List (K × X)) → List (K × X)
  concat_rows rows = flat_map (λ row. row) rows

  -- the entries before a place, those from it on, and those after it
  abbrev pub entries_before : List (List (K × X)) → ℕ → ℕ → List (K × X)
  entries_before rows row at = concat_rows (take row rows) ++ take at (slice_index_or rows row [])

  abbrev pub from : List (List (K × X)) → ℕ → ℕ → List (K × X)
  from rows row at = drop at (slice_index_or rows row []) ++ concat_rows (drop (suc row) rows)

  abbrev pub entries_after : List (List (K × X)) → ℕ → ℕ → List (K × X)
  entries_after rows row at = drop (suc at) (slice_index_or rows row []) ++ concat_rows (drop (suc row) rows)

  -- the entries, with w as the value of the entry at a place
  abbrev pub with_value_at : List (K × X) → ℕ → X → List (K × X)
  with_value_at [] at w = []
  with_value_at (e ∷ es) zero w = (e.0, w) ∷ es
  with_value_at (e ∷ es) (suc at) w = e ∷ with_value_at es at w

  -- no row is empty
  abbrev pub AreFilled : List (List (K × X)) → Type 0
  AreFilled rows = AllByRecursion (λ row. 0 < length row) rows

  module _ (cmp : K → K → Ordering) where
    -- the keys rise
    abbrev pub IsOrdered : List (K × X) → Type 0
    IsOrdered es = IsStrictlySortedBy cmp (keys_of es)

    -- the keys rise, and no row is empty
    pub record AreOrdered (rows : List (List (K × X))) : Type 0 where
      pub ordered : IsOrdered (concat_rows rows)
      pub filled : AreFilled rows

    module _ (key : K) where
      -- a key is above all of the entries', or below all of them
      abbrev pub AllBelow : List (K × X) → Type 0
      AllBelow es = AllByRecursion (λ e. cmp key e.0 ≡ Greater) es

      abbrev pub AllAbove : List (K × X) → Type 0
      AllAbove es = AllByRecursion (λ e. cmp key e.0 ≡ Less) es

      -- the first entry has the key
      abbrev pub IsFirst : List (K × X) → Type 0
      IsFirst [] = ⊥
      IsFirst (e ∷ es) = cmp key e.0 ≡ Equal

      -- whether the first key is above the key
      abbrev pub begins_after : List (K × X) → Bool
      begins_after [] = false
      begins_after (e ∷ es) = is_lt (cmp key e.0)

      -- the key is at a place among entries, or is to be inserted there
      pub record IsFoundIn (es : List (K × X)) (at : ℕ) : Type 0 where
        pub place : at < length es
        pub below : AllBelow (take at es)
        pub here : IsFirst (drop at es)

      pub record IsGapIn (es : List (K × X)) (at : ℕ) : Type 0 where
        pub place : at ≤ length es
        pub below : AllBelow (take at es)
        pub above : AllAbove (drop at es)

      -- the key is in that row if it is in any; if there are rows, it is one of them
      pub record IsRowFor (rows : List (List (K × X))) (row : ℕ) : Type 0 where
        pub place : row ≤ length rows
        pub one : 0 < length rows → row < length rows
        pub below : AllBelow (concat_rows (take row rows))
        pub above : AllAbove (concat_rows (drop (suc row) rows))

      -- the key is at a place in rows, or is to be inserted there
      pub record IsFound (rows : List (List (K × X))) (row at : ℕ) : Type 0 where
        pub in_rows : row < length rows
        pub in_row : at < length (slice_index_or rows row [])
        pub below : AllBelow (entries_before rows row at)
        pub here : IsFirst (from rows row at)

      pub record IsGap (rows : List (List (K × X))) (row at : ℕ) : Type 0 where
        pub in_rows : row ≤ length rows
        pub in_row : at ≤ length (slice_index_or rows row [])
        pub below : AllBelow (entries_before rows row at)
        pub above : AllAbove (from rows row at)
