-- The counts of a client's cells, as the list of these.
use Rattle.std.proofs.Common.{◌≡◌, ℕ, zero, suc, ◌+◌, ◌-◌, ◌<◌, ◌==◌, arith, Bool, true, false, cond, List, [], ◌∷◌, Option, Some, None, refl, sym, ap, ◌∙◌}
use Rattle.std.proofs.Common.{subst}
use Rattle.std.specs.Prelude.{is_some, not}
use Rattle.std.specs.BTreeMap.{insert_entry, is_at}
use Rattle.std.specs.List.{list_any}
use Rattle.std.specs.List.Sorted.{IsStrictlySortedBy}
use Rattle.std.specs.Map.{keys_of, lookup, remove_entry, set_value}
use Rattle.std.specs.Option.{unwrap_or}
use Rattle.std.specs.Ordering.{is_eq, match_ordering}
use Rattle.std.specs.declared.cmp.Ordering.{Ordering}
use Rattle.std.specs.declared.cmp.Ordering.TheVariants.{Less, Equal, Greater}
use Rattle.std.proofs.lemmas.Bool.{eqb-true}
use Rattle.oa_turn.proofs.CellOrder.{any_at, fewer_at, is_cell_by, more_at, none_fewer}
use Rattle.oa_turn.proofs.Finding.{above_all, none_above}
use Rattle.oa_turn.specs.promise.ClientLocks.{cell_cmp, is_cell}
use Rattle.oa_turn.specs.ClientLocks.{cells_total}
use Rattle.oa_turn.specs.Kept.{AreCounted, copies, each_counted, has_cell, with_locked_cell, without_cell}
use Rattle.oa_table.specs.declared.name.CellName.{CellName}

abbrev Counts : Type 0
Counts = List (CellName × ℕ)

module _ (name : CellName) where
  abbrev here : CellName → Bool
  here other = is_cell other name

  abbrev found : Counts → Option ℕ
  found es = lookup (is_at (cell_cmp name)) es

  -- ---- one more
  past_copies : (other : CellName) (n : ℕ) (rest : List CellName) → cell_cmp name other ≡ Greater → with_locked_cell name (copies n other rest) ≡ copies n other
      (with_locked_cell name rest)
  past_copies other zero rest above = refl
  past_copies other (suc n) rest above = more_at cell_cmp name other (copies n other rest) Greater above
      ∙ ap (λ (l : List CellName). other ∷ l) (past_copies other n rest above)

  one_copy_more : (other : CellName) (held n : ℕ) (rest : List CellName) → held ≡ suc n → other ∷ other ∷ copies n other rest ≡ copies (held + 1) other rest
  one_copy_more other held n rest is = ap (λ (k : ℕ). copies k other rest) (two held n is)
    where
      two : (k m : ℕ) → k ≡ suc m → suc (suc m) ≡ k + 1
      two k m e = omega (arith, e)

  one_copy : (other : CellName) (held : ℕ) (rest : List CellName) → held ≡ 0 → other ∷ rest ≡ copies (held + 1) other rest
  one_copy other held rest is = ap (λ (k : ℕ). copies k other rest) (one held is)
    where
      one : (k : ℕ) → k ≡ 0 → suc zero ≡ k + 1
      one k e = omega (arith, e)

  pub counted_more : (es : Counts) (held : ℕ) → IsStrictlySortedBy cell_cmp (keys_of es) → AreCounted es → held ≡ unwrap_or (found es) 0
      → with_locked_cell name (each_counted es) ≡ each_counted (insert_entry cell_cmp es name (held + 1))
  unfolding IsStrictlySortedBy
  counted_more [] held sorted counted is = one_copy name held [] is
  counted_more ((other, zero) ∷ es) held sorted counted is = absurd (omega (arith, counted.0))
  counted_more ((other, suc n) ∷ es) held sorted counted is =
      more_at cell_cmp name other (copies n other (each_counted es)) (cell_cmp name other) refl
      ∙ by (cell_cmp name other) refl is (counted_more es held sorted.1 counted.1)
    where
      by : (o : Ordering) → cell_cmp name other ≡ o → held ≡ unwrap_or (cond (is_eq o) (Some (suc n)) (found es)) 0
          → (held ≡ unwrap_or (found es) 0 → with_locked_cell name (each_counted es) ≡ each_counted (insert_entry cell_cmp es name (held + 1)))
          → match_ordering o (name ∷ other ∷ copies n other (each_counted es)) (other ∷ other ∷ copies n other (each_counted es))
          (other ∷ with_locked_cell name (copies n other (each_counted es)))
          ≡ each_counted (match_ordering o ((name, held + 1) ∷ (other, suc n) ∷ es) ((other, held + 1) ∷ es)
          ((other, suc n) ∷ insert_entry cell_cmp es name (held + 1)))
      by Less at now rest =
          let none : found es ≡ None = none_above cells_total name es (above_all cells_total name other (keys_of es) at sorted.0) in
          one_copy name held (other ∷ copies n other (each_counted es)) (now ∙ ap (λ (o : Option ℕ). unwrap_or o 0) none)
      by Equal at now rest = one_copy_more other held n (each_counted es) now
      by Greater at now rest =
          ap (λ (l : List CellName). other ∷ l) (past_copies other n (each_counted es) at ∙ ap (λ (l : List CellName). copies n other l) (rest now))

  pub more_counted : (es : Counts) (held : ℕ) → AreCounted es → AreCounted (insert_entry cell_cmp es name (held + 1))
  more_counted [] held counted = (omega arith, tt)
  more_counted (e ∷ es) held counted = by (cell_cmp name e.0) (more_counted es held counted.1)
    where
      by : (o : Ordering) → AreCounted (insert_entry cell_cmp es name (held + 1))
          → AreCounted (match_ordering o ((name, held + 1) ∷ e ∷ es) ((e.0, held + 1) ∷ es) (e ∷ insert_entry cell_cmp es name (held + 1)))
      by Less rest = (omega arith, counted)
      by Equal rest = (omega arith, counted.1)
      by Greater rest = (counted.0, rest)

  -- ---- whether it is there
  any_copies : (other : CellName) (n : ℕ) (rest : List CellName) → here other ≡ false → list_any here (copies n other rest) ≡ list_any here rest
  any_copies other zero rest out = refl
  any_copies other (suc n) rest out = any_at here other (copies n other rest) false out ∙ any_copies other n rest out

  pub counted_has : (es : Counts) → AreCounted es → has_cell name (each_counted es) ≡ is_some (found es)
  counted_has [] counted = refl
  counted_has ((other, zero) ∷ es) counted = absurd (omega (arith, counted.0))
  counted_has ((other, suc n) ∷ es) counted = by (cell_cmp name other) refl (counted_has es counted.1)
    where
      by : (o : Ordering) → cell_cmp name other ≡ o → has_cell name (each_counted es) ≡ is_some (found es)
          → has_cell name (copies (suc n) other (each_counted es)) ≡ is_some (cond (is_eq o) (Some (suc n)) (found es))
      by Less at rest = any_copies other (suc n) (each_counted es) (is_cell_by name other Less at) ∙ rest
      by Equal at rest = any_at here other (copies n other (each_counted es)) true (is_cell_by name other Equal at)
      by Greater at rest = any_copies other (suc n) (each_counted es) (is_cell_by name other Greater at) ∙ rest

  -- ---- one fewer
  pub counted_none : (es : Counts) → AreCounted es → found es ≡ None → without_cell name (each_counted es) ≡ each_counted es
  counted_none es counted none = none_fewer here (each_counted es) (counted_has es counted ∙ ap is_some none)

  fewer_copies : (other : CellName) (n : ℕ) (rest : List CellName) → here other ≡ false → without_cell name (copies n other rest) ≡ copies n other
      (without_cell name rest)
  fewer_copies other zero rest out = refl
  fewer_copies other (suc n) rest out = fewer_at here other (copies n other rest) false out
      ∙ ap (λ (l : List CellName). other ∷ l) (fewer_copies other n rest out)

  pub counted_fewer : (es : Counts) (left : ℕ) → found es ≡ Some (suc left) → without_cell name (each_counted es) ≡ each_counted
      (set_value (is_at (cell_cmp name)) es left)
  counted_fewer [] left is = absurd cc
  counted_fewer (e ∷ es) left is = by (cell_cmp name e.0) refl is (counted_fewer es left)
    where
      inside : (n k : ℕ) → Some n ≡ Some k → n ≡ k
      inside n k same = ap (λ (o : Option ℕ). unwrap_or o 0) same

      by : (o : Ordering) → cell_cmp name e.0 ≡ o → cond (is_eq o) (Some e.1) (found es) ≡ Some (suc left)
          → (found es ≡ Some (suc left) → without_cell name (each_counted es) ≡ each_counted (set_value (is_at (cell_cmp name)) es left))
          → without_cell name (copies e.1 e.0 (each_counted es)) ≡ each_counted
          (cond (is_eq o) ((e.0, left) ∷ es) (e ∷ set_value (is_at (cell_cmp name)) es left))
      by Less at now rest = fewer_copies e.0 e.1 (each_counted es) (is_cell_by name e.0 Less at) ∙ ap (λ (l : List CellName). copies e.1 e.0 l) (rest now)
      by Equal at now rest =
          ap (λ (n : ℕ). without_cell name (copies n e.0 (each_counted es))) (inside e.1 (suc left) now)
          ∙ fewer_at here e.0 (copies left e.0 (each_counted es)) true (is_cell_by name e.0 Equal at)
      by Greater at now rest = fewer_copies e.0 e.1 (each_counted es) (is_cell_by name e.0 Greater at) ∙ ap (λ (l : List CellName). copies e.1 e.0 l) (rest now)

  pub counted_last : (es : Counts) → each_counted (set_value (is_at (cell_cmp name)) es 0) ≡ each_counted (remove_entry (is_at (cell_cmp name)) es)
  counted_last [] = refl
  counted_last (e ∷ es) = by (is_eq (cell_cmp name e.0)) (counted_last es)
    where
      by : (b : Bool) → each_counted (set_value (is_at (cell_cmp name)) es 0) ≡ each_counted (remove_entry (is_at (cell_cmp name)) es)
          → each_counted (cond b ((e.0, 0) ∷ es) (e ∷ set_value (is_at (cell_cmp name)) es 0)) ≡ each_counted
          (cond b es (e ∷ remove_entry (is_at (cell_cmp name)) es))
      by true rest = refl
      by false rest = ap (λ (l : List CellName). copies e.1 e.0 l) rest

  pub fewer_counted : (es : Counts) (left : ℕ) → 0 < left → AreCounted es → AreCounted (set_value (is_at (cell_cmp name)) es left)
  fewer_counted [] left some counted = tt
  fewer_counted (e ∷ es) left some counted = by (is_eq (cell_cmp name e.0)) (fewer_counted es left some counted.1)
    where
      by : (b : Bool) → AreCounted (set_value (is_at (cell_cmp name)) es left)
          → AreCounted (cond b ((e.0, left) ∷ es) (e ∷ set_value (is_at (cell_cmp name)) es left))
      by true rest = (some, counted.1)
      by false rest = (counted.0, rest)

  pub last_counted : (es : Counts) → AreCounted es → AreCounted (remove_entry (is_at (cell_cmp name)) es)
  last_counted [] counted = tt
  last_counted (e ∷ es) counted = by (is_eq (cell_cmp name e.0)) (last_counted es counted.1)
    where
      by : (b : Bool) → AreCounted (remove_entry (is_at (cell_cmp name)) es) → AreCounted (cond b es (e ∷ remove_entry (is_at (cell_cmp name)) es))
      by true rest = counted.1
      by false rest = (counted.0, rest)

  pub found_counted : (es : Counts) (n : ℕ) → AreCounted es → found es ≡ Some n → 0 < n
  found_counted [] n counted is = absurd cc
  found_counted (e ∷ es) n counted is = by (is_eq (cell_cmp name e.0)) is (found_counted es n counted.1)
    where
      by : (b : Bool) → cond b (Some e.1) (found es) ≡ Some n → (found es ≡ Some n → 0 < n) → 0 < n
      by true now rest = let same : e.1 ≡ n = ap (λ (o : Option ℕ). unwrap_or o 0) now in omega (arith, same, counted.0)
      by false now rest = rest now

  -- ---- by the count that was found
  zero_found : (o : Option ℕ) (held : ℕ) → ((n : ℕ) → o ≡ Some n → 0 < n) → held ≡ unwrap_or o 0 → held ≡ 0 → o ≡ None
  zero_found None held some is none = refl
  zero_found (Some n) held some is none = absurd (omega (arith, some n refl, is, none))

  some_found : (o : Option ℕ) (held left : ℕ) → held ≡ unwrap_or o 0 → held ≡ suc left → o ≡ Some (suc left)
  some_found None held left is more = absurd (omega (arith, is, more))
  some_found (Some n) held left is more = ap (λ (k : ℕ). some_of k) (sym is ∙ more)
    where
      some_of : ℕ → Option ℕ
      some_of k = Some k

  pub none_held : (es : Counts) (held : ℕ) → AreCounted es → held ≡ unwrap_or (found es) 0 → held ≡ 0 → each_counted es ≡ without_cell name (each_counted es)
  none_held es held counted is none = sym (counted_none es counted (zero_found (found es) held (λ n e. found_counted es n counted e) is none))

  pub one_held : (es new : Counts) (held : ℕ) → held ≡ unwrap_or (found es) 0 → held ≡ 1 → new ≡ remove_entry (is_at (cell_cmp name)) es
      → each_counted new ≡ without_cell name (each_counted es)
  one_held es new held is one removed =
      ap (λ (l : Counts). each_counted l) removed ∙ sym (counted_fewer es 0 (some_found (found es) held 0 is one) ∙ counted_last es)

  one_less : (n : ℕ) → suc n - 1 ≡ n
  one_less n = omega arith

  pub more_held : (es new : Counts) (held : ℕ) → held ≡ unwrap_or (found es) 0 → (held ≡ 0 → ⊥) → new ≡ set_value (is_at (cell_cmp name)) es (held - 1)
      → each_counted new ≡ without_cell name (each_counted es)
  more_held es new zero is some set = absurd (some refl)
  more_held es new (suc left) is some set =
      ap (λ (l : Counts). each_counted l) set ∙ ap (λ (n : ℕ). each_counted (set_value (is_at (cell_cmp name)) es n)) (one_less left)
      ∙ sym (counted_fewer es left (some_found (found es) (suc left) left is refl))

  pub more_held_counted : (es new : Counts) (held : ℕ) → AreCounted es → (held ≡ 0 → ⊥) → (held ≡ 1 → ⊥) → new ≡ set_value (is_at (cell_cmp name)) es (held - 1)
      → AreCounted new
  more_held_counted es new zero counted some more set = absurd (some refl)
  more_held_counted es new (suc zero) counted some more set = absurd (more refl)
  more_held_counted es new (suc (suc left)) counted some more set =
      subst (λ (l : Counts). AreCounted l) (sym (set ∙ ap (λ (n : ℕ). set_value (is_at (cell_cmp name)) es n) (one_less (suc left))))
      (fewer_counted es (suc left) (omega arith) counted)

  pub not_none : (es : Counts) (held : ℕ) → held ≡ unwrap_or (found es) 0 → (held ≡ 0 → ⊥) → found es ≡ None → ⊥
  not_none es held is some none = some (is ∙ ap (λ (o : Option ℕ). unwrap_or o 0) none)

  pub held_has : (es : Counts) (held : ℕ) → AreCounted es → held ≡ unwrap_or (found es) 0 → not (held == 0) ≡ has_cell name (each_counted es)
  held_has es held counted is = by (found es) (λ n e. found_counted es n counted e) is ∙ sym (counted_has es counted)
    where
      by : (o : Option ℕ) → ((n : ℕ) → o ≡ Some n → 0 < n) → held ≡ unwrap_or o 0 → not (held == 0) ≡ is_some o
      by None some e = ap (λ (k : ℕ). not (k == 0)) e
      by (Some zero) some e = absurd (omega (arith, some zero refl))
      by (Some (suc n)) some e = ap (λ (k : ℕ). not (k == 0)) e ∙ at (suc n == 0) refl
        where
          at : (b : Bool) → (suc n == 0) ≡ b → not b ≡ true
          at true zero_is = absurd (omega (arith, eqb-true (suc n) 0 zero_is))
          at false zero_is = refl

  pub counts_more : (es new : Counts) (held : ℕ) → IsStrictlySortedBy cell_cmp (keys_of es) → AreCounted es → held ≡ unwrap_or (found es) 0
      → new ≡ insert_entry cell_cmp es name (held + 1)
      → each_counted new ≡ with_locked_cell name (each_counted es)
  counts_more es new held sorted counted is put = ap (λ (l : Counts). each_counted l) put ∙ sym (counted_more es held sorted counted is)

  pub counts_more_counted : (es new : Counts) (held : ℕ) → AreCounted es → new ≡ insert_entry cell_cmp es name (held + 1) → AreCounted new
  counts_more_counted es new held counted put = subst (λ (l : Counts). AreCounted l) (sym put) (more_counted es held counted)
