-- The entries of clients, as the list of their locks.
use Rattle.std.proofs.Common.{◌≡◌, ℕ, ◌==◌, Bool, true, false, cond, List, [], ◌∷◌, ◌++◌, map, Option, Some, None, Result, Ok, Err, OnErr, OnOk, refl, sym}
use Rattle.std.proofs.Common.{ap, ◌∙◌}
use Rattle.std.specs.Prelude.{◌&&◌, ◌||◌, if◌then◌else◌, not}
use Rattle.std.specs.BTreeMap.{insert_entry, is_at}
use Rattle.std.specs.Cmp.{unsigned_tied}
use Rattle.std.specs.List.{list_any}
use Rattle.std.specs.List.Sorted.{IsStrictlySortedBy}
use Rattle.std.specs.Map.{keys_of, lookup, remove_entry, set_value}
use Rattle.std.specs.Ordering.{is_eq, match_ordering, nat_cmp, ordering_then}
use Rattle.std.specs.declared.cmp.Ordering.{Ordering}
use Rattle.std.specs.declared.cmp.Ordering.TheVariants.{Less, Equal, Greater}
use Rattle.std.proofs.lemmas.Bool.{eqb-true}
use Rattle.std.proofs.lemmas.Cmp.{nat_cmp_total, nat_eq_equiv}
use Rattle.std.proofs.lemmas.Map.Steps.{set_value_same}
use Rattle.oa_turn.proofs.CellOrder.{any_at, fewer_at, more_at, none_fewer}
use Rattle.oa_turn.proofs.Finding.{Above, above_all, none_above}
use Rattle.oa_turn.specs.promise.ClientLocks.{ClientLock, cell_cmp, cells_of, is_cell, is_lock_of, lock_cmp, of_others}
use Rattle.oa_turn.specs.promise.ClientLocks.{owns, with_one, without_one}
use Rattle.oa_turn.specs.Counts.{locked_name}
use Rattle.oa_turn.specs.Kept.{all_locked_cells, all_locks, client_locks, has_cell, with_locked_cell, without_cell}
use Rattle.oa_table.specs.declared.name.CellName.{CellName}

abbrev Clients : Type 0
Clients = List (ℕ × List CellName)

abbrev IsSorted : Clients → Type 0
IsSorted cs = IsStrictlySortedBy nat_cmp (keys_of cs)

abbrev pub cells_in : Option (List CellName) → List CellName
cells_in None = []
cells_in (Some names) = names

-- the cells of all
pub same_cells_of_all : (cs : Clients) → all_locked_cells cs ≡ map locked_name (all_locks cs)
same_cells_of_all [] = refl
same_cells_of_all (c ∷ cs) = on c.1 (same_cells_of_all cs)
  where
    on : (names : List CellName) → all_locked_cells cs ≡ map locked_name (all_locks cs)
        → names ++ all_locked_cells cs ≡ map locked_name (client_locks c.0 names (all_locks cs))
    on [] rest = rest
    on (name ∷ names) rest = ap (λ (l : List CellName). name ∷ l) (on names rest)

module _ (client : ℕ) where
  abbrev found : Clients → Option (List CellName)
  found cs = lookup (is_at (nat_cmp client)) cs

  -- whether another number is the client's
  number_by : (k : ℕ) (o : Ordering) → nat_cmp client k ≡ o → (k == client) ≡ is_eq o
  number_by k o e = nat_eq_equiv.symm k client ∙ sym (unsigned_tied client k) ∙ ap is_eq e

  -- an entry without cells
  pub begun : (cs : Clients) → found cs ≡ None → all_locks (insert_entry nat_cmp cs client []) ≡ all_locks cs
  begun [] none = refl
  begun (c ∷ cs) none = by (nat_cmp client c.0) none (begun cs)
    where
      by : (o : Ordering) → cond (is_eq o) (Some c.1) (found cs) ≡ None → (found cs ≡ None → all_locks (insert_entry nat_cmp cs client []) ≡ all_locks cs)
          → all_locks (match_ordering o ((client, []) ∷ c ∷ cs) ((c.0, []) ∷ cs) (c ∷ insert_entry nat_cmp cs client [])) ≡ all_locks (c ∷ cs)
      by Less now rest = refl
      by Equal now rest = absurd cc
      by Greater now rest = ap (λ (l : List ClientLock). client_locks c.0 c.1 l) (rest now)

  -- ---- the client's end
  abbrev other : ClientLock → Bool
  other lock = not (lock.client == client)

  others_own : (k : ℕ) (names : List CellName) (rest : List ClientLock) → (k == client) ≡ true
      → of_others client (client_locks k names rest) ≡ of_others client rest
  others_own k [] rest mine = refl
  others_own k (name ∷ names) rest mine =
      ap (λ (b : Bool). if not b then record { client = k; name = name } ∷ of_others client (client_locks k names rest) else of_others client
      (client_locks k names rest)) mine
      ∙ others_own k names rest mine

  others_other : (k : ℕ) (names : List CellName) (rest : List ClientLock) → (k == client) ≡ false
      → of_others client (client_locks k names rest) ≡ client_locks k names (of_others client rest)
  others_other k [] rest out = refl
  others_other k (name ∷ names) rest out =
      ap (λ (b : Bool). if not b then record { client = k; name = name } ∷ of_others client (client_locks k names rest) else of_others client
      (client_locks k names rest)) out
      ∙ ap (λ (l : List ClientLock). record { client = k; name = name } ∷ l) (others_other k names rest out)

  others_above : (cs : Clients) → Above nat_cmp_total client (keys_of cs) → of_others client (all_locks cs) ≡ all_locks cs
  others_above [] all = refl
  others_above (c ∷ cs) all = others_other c.0 c.1 (all_locks cs) (number_by c.0 Less all.0) ∙ ap (λ (l : List ClientLock). client_locks c.0 c.1 l)
      (others_above cs all.1)

  pub ended : (cs : Clients) → IsSorted cs → of_others client (all_locks cs) ≡ all_locks (remove_entry (is_at (nat_cmp client)) cs)
  unfolding IsStrictlySortedBy
  ended [] sorted = refl
  ended (c ∷ cs) sorted = by (nat_cmp client c.0) refl (ended cs sorted.1)
    where
      by : (o : Ordering) → nat_cmp client c.0 ≡ o → of_others client (all_locks cs) ≡ all_locks (remove_entry (is_at (nat_cmp client)) cs)
          → of_others client (client_locks c.0 c.1 (all_locks cs)) ≡ all_locks (cond (is_eq o) cs (c ∷ remove_entry (is_at (nat_cmp client)) cs))
      by Less at rest = others_other c.0 c.1 (all_locks cs) (number_by c.0 Less at) ∙ ap (λ (l : List ClientLock). client_locks c.0 c.1 l) rest
      by Equal at rest =
          let same : client ≡ c.0 = eqb-true client c.0 (sym (unsigned_tied client c.0) ∙ ap is_eq at) in
          others_own c.0 c.1 (all_locks cs) (number_by c.0 Equal at) ∙ others_above cs (rw same sorted.0)
      by Greater at rest = others_other c.0 c.1 (all_locks cs) (number_by c.0 Greater at) ∙ ap (λ (l : List ClientLock). client_locks c.0 c.1 l) rest

  cells_own : (k : ℕ) (names : List CellName) (rest : List ClientLock) → (k == client) ≡ true
      → cells_of client (client_locks k names rest) ≡ names ++ cells_of client rest
  unfolding cells_of
  cells_own k [] rest mine = refl
  cells_own k (name ∷ names) rest mine =
      ap (λ (b : Bool). if b then name ∷ cells_of client (client_locks k names rest) else cells_of client (client_locks k names rest)) mine
      ∙ ap (λ (l : List CellName). name ∷ l) (cells_own k names rest mine)

  cells_other : (k : ℕ) (names : List CellName) (rest : List ClientLock) → (k == client) ≡ false
      → cells_of client (client_locks k names rest) ≡ cells_of client rest
  unfolding cells_of
  cells_other k [] rest out = refl
  cells_other k (name ∷ names) rest out =
      ap (λ (b : Bool). if b then name ∷ cells_of client (client_locks k names rest) else cells_of client (client_locks k names rest)) out
      ∙ cells_other k names rest out

  cells_none : cells_of client [] ≡ []
  unfolding cells_of
  cells_none = refl

  cells_above : (cs : Clients) → Above nat_cmp_total client (keys_of cs) → cells_of client (all_locks cs) ≡ []
  cells_above [] all = cells_none
  cells_above (c ∷ cs) all = cells_other c.0 c.1 (all_locks cs) (number_by c.0 Less all.0) ∙ cells_above cs all.1

  no_more : (names : List CellName) → names ++ [] ≡ names
  no_more [] = refl
  no_more (name ∷ names) = ap (λ (l : List CellName). name ∷ l) (no_more names)

  pub own_cells : (cs : Clients) → IsSorted cs → cells_of client (all_locks cs) ≡ cells_in (found cs)
  unfolding IsStrictlySortedBy
  own_cells [] sorted = cells_none
  own_cells (c ∷ cs) sorted = by (nat_cmp client c.0) refl (own_cells cs sorted.1)
    where
      by : (o : Ordering) → nat_cmp client c.0 ≡ o → cells_of client (all_locks cs) ≡ cells_in (found cs)
          → cells_of client (client_locks c.0 c.1 (all_locks cs)) ≡ cells_in (cond (is_eq o) (Some c.1) (found cs))
      by Less at rest = cells_other c.0 c.1 (all_locks cs) (number_by c.0 Less at) ∙ rest
      by Equal at rest =
          let same : client ≡ c.0 = eqb-true client c.0 (sym (unsigned_tied client c.0) ∙ ap is_eq at) in
          cells_own c.0 c.1 (all_locks cs) (number_by c.0 Equal at) ∙ ap (λ (l : List CellName). c.1 ++ l) (cells_above cs (rw same sorted.0)) ∙ no_more c.1
      by Greater at rest = cells_other c.0 c.1 (all_locks cs) (number_by c.0 Greater at) ∙ rest

  module _ (name : CellName) where
    abbrev new : ClientLock
    new = record { client = client; name = name }

    abbrev own : ClientLock → Bool
    own = is_lock_of client name

    -- ---- one more
    first_of_all : (cs : Clients) → Above nat_cmp_total client (keys_of cs) → with_one client name (all_locks cs) ≡ new ∷ all_locks cs
    first_of_all [] all = refl
    first_of_all ((k, []) ∷ cs) all = first_of_all cs all.1
    first_of_all ((k, other ∷ names) ∷ cs) all =
        more_at lock_cmp new (record { client = k; name = other }) (client_locks k names (all_locks cs)) Less
        (ap (λ (o : Ordering). ordering_then o (cell_cmp name other)) all.0)

    more_own : (k : ℕ) (names : List CellName) (rest : List ClientLock) → client ≡ k → nat_cmp client k ≡ Equal → with_one client name rest ≡ new ∷ rest
        → with_one client name (client_locks k names rest) ≡ client_locks k (with_locked_cell name names) rest
    more_own k [] rest same at first = first ∙ ap (λ (n : ℕ). record { client = n; name = name } ∷ rest) same
    more_own k (other ∷ names) rest same at first =
        more_at lock_cmp new (record { client = k; name = other }) (client_locks k names rest) (cell_cmp name other)
        (ap (λ (o : Ordering). ordering_then o (cell_cmp name other)) at)
        ∙ by (cell_cmp name other) (more_own k names rest same at first)
      where
        by : (o : Ordering) → with_one client name (client_locks k names rest) ≡ client_locks k (with_locked_cell name names) rest
            → match_ordering o (new ∷ record { client = k; name = other } ∷ client_locks k names rest)
            (record { client = k; name = other } ∷ record { client = k; name = other } ∷ client_locks k names rest)
            (record { client = k; name = other } ∷ with_one client name (client_locks k names rest))
            ≡ client_locks k (match_ordering o (name ∷ other ∷ names) (other ∷ other ∷ names) (other ∷ with_locked_cell name names)) rest
        by Less so = ap (λ (n : ℕ). record { client = n; name = name } ∷ record { client = k; name = other } ∷ client_locks k names rest) same
        by Equal so = refl
        by Greater so = ap (λ (l : List ClientLock). record { client = k; name = other } ∷ l) so

    more_past : (k : ℕ) (names : List CellName) (rest : List ClientLock) → nat_cmp client k ≡ Greater
        → with_one client name (client_locks k names rest) ≡ client_locks k names (with_one client name rest)
    more_past k [] rest at = refl
    more_past k (other ∷ names) rest at =
        more_at lock_cmp new (record { client = k; name = other }) (client_locks k names rest) Greater
        (ap (λ (o : Ordering). ordering_then o (cell_cmp name other)) at)
        ∙ ap (λ (l : List ClientLock). record { client = k; name = other } ∷ l) (more_past k names rest at)

    pub one_more : (cs : Clients) (names : List CellName) → IsSorted cs → found cs ≡ Some names
        → with_one client name (all_locks cs) ≡ all_locks (set_value (is_at (nat_cmp client)) cs (with_locked_cell name names))
    unfolding IsStrictlySortedBy
    one_more [] names sorted is = absurd cc
    one_more (c ∷ cs) names sorted is = by (nat_cmp client c.0) refl is (one_more cs names sorted.1)
      where
        by : (o : Ordering) → nat_cmp client c.0 ≡ o → cond (is_eq o) (Some c.1) (found cs) ≡ Some names
            → (found cs ≡ Some names → with_one client name (all_locks cs) ≡ all_locks (set_value (is_at (nat_cmp client)) cs (with_locked_cell name names)))
            → with_one client name (client_locks c.0 c.1 (all_locks cs)) ≡ all_locks
            (cond (is_eq o) ((c.0, with_locked_cell name names) ∷ cs) (c ∷ set_value (is_at (nat_cmp client)) cs (with_locked_cell name names)))
        by Less at now rest = absurd (nowhere (sym (none_above nat_cmp_total client cs (above_all nat_cmp_total client c.0 (keys_of cs) at sorted.0)) ∙ now))
          where
            nowhere : None ≡ Some names → ⊥
            nowhere e = cc
        by Equal at now rest =
            let same : client ≡ c.0 = eqb-true client c.0 (sym (unsigned_tied client c.0) ∙ ap is_eq at) in
            more_own c.0 c.1 (all_locks cs) same at (first_of_all cs (rw same sorted.0))
            ∙ ap (λ (l : List CellName). client_locks c.0 (with_locked_cell name l) (all_locks cs)) (ap cells_in now)
        by Greater at now rest = more_past c.0 c.1 (all_locks cs) at ∙ ap (λ (l : List ClientLock). client_locks c.0 c.1 l) (rest now)

    -- ---- whether it has one
    any_own : (k : ℕ) (names : List CellName) (rest : List ClientLock) → (k == client) ≡ true → list_any own rest ≡ false
        → list_any own (client_locks k names rest) ≡ has_cell name names
    any_own k [] rest mine none = none
    any_own k (other ∷ names) rest mine none =
        any_at own (record { client = k; name = other }) (client_locks k names rest) (is_cell other name) (ap (λ (b : Bool). b && is_cell other name) mine)
        ∙ ap (λ (b : Bool). is_cell other name || b) (any_own k names rest mine none)

    any_other : (k : ℕ) (names : List CellName) (rest : List ClientLock) → (k == client) ≡ false → list_any own (client_locks k names rest) ≡ list_any own rest
    any_other k [] rest out = refl
    any_other k (other ∷ names) rest out =
        any_at own (record { client = k; name = other }) (client_locks k names rest) false (ap (λ (b : Bool). b && is_cell other name) out)
        ∙ any_other k names rest out

    any_above : (cs : Clients) → Above nat_cmp_total client (keys_of cs) → list_any own (all_locks cs) ≡ false
    any_above [] all = refl
    any_above (c ∷ cs) all = any_other c.0 c.1 (all_locks cs) (number_by c.0 Less all.0) ∙ any_above cs all.1

    pub has_one : (cs : Clients) → IsSorted cs → owns client name (all_locks cs) ≡ has_cell name (cells_in (found cs))
    unfolding IsStrictlySortedBy
    has_one [] sorted = refl
    has_one (c ∷ cs) sorted = by (nat_cmp client c.0) refl (has_one cs sorted.1)
      where
        by : (o : Ordering) → nat_cmp client c.0 ≡ o → owns client name (all_locks cs) ≡ has_cell name (cells_in (found cs))
            → owns client name (client_locks c.0 c.1 (all_locks cs)) ≡ has_cell name (cells_in (cond (is_eq o) (Some c.1) (found cs)))
        by Less at rest = any_other c.0 c.1 (all_locks cs) (number_by c.0 Less at) ∙ rest
        by Equal at rest =
            let same : client ≡ c.0 = eqb-true client c.0 (sym (unsigned_tied client c.0) ∙ ap is_eq at) in
            any_own c.0 c.1 (all_locks cs) (number_by c.0 Equal at) (any_above cs (rw same sorted.0))
        by Greater at rest = any_other c.0 c.1 (all_locks cs) (number_by c.0 Greater at) ∙ rest

    -- ---- one fewer
    fewer_own : (k : ℕ) (names : List CellName) (rest : List ClientLock) → (k == client) ≡ true → list_any own rest ≡ false
        → without_one client name (client_locks k names rest) ≡ client_locks k (without_cell name names) rest
    fewer_own k [] rest mine none = none_fewer own rest none
    fewer_own k (other ∷ names) rest mine none =
        fewer_at own (record { client = k; name = other }) (client_locks k names rest) (is_cell other name) (ap (λ (b : Bool). b && is_cell other name) mine)
        ∙ by (is_cell other name) (fewer_own k names rest mine none)
      where
        by : (b : Bool) → without_one client name (client_locks k names rest) ≡ client_locks k (without_cell name names) rest
            → (if b then client_locks k names rest else record { client = k; name = other } ∷ without_one client name (client_locks k names rest))
            ≡ client_locks k (if b then names else other ∷ without_cell name names) rest
        by true so = refl
        by false so = ap (λ (l : List ClientLock). record { client = k; name = other } ∷ l) so

    fewer_other : (k : ℕ) (names : List CellName) (rest : List ClientLock) → (k == client) ≡ false
        → without_one client name (client_locks k names rest) ≡ client_locks k names (without_one client name rest)
    fewer_other k [] rest out = refl
    fewer_other k (other ∷ names) rest out =
        fewer_at own (record { client = k; name = other }) (client_locks k names rest) false (ap (λ (b : Bool). b && is_cell other name) out)
        ∙ ap (λ (l : List ClientLock). record { client = k; name = other } ∷ l) (fewer_other k names rest out)

    pub one_fewer : (cs : Clients) (names : List CellName) → IsSorted cs → found cs ≡ Some names → without_one client name (all_locks cs) ≡ all_locks
        (set_value (is_at (nat_cmp client)) cs (without_cell name names))
    unfolding IsStrictlySortedBy
    one_fewer [] names sorted is = absurd cc
    one_fewer (c ∷ cs) names sorted is = by (nat_cmp client c.0) refl is (one_fewer cs names sorted.1)
      where
        by : (o : Ordering) → nat_cmp client c.0 ≡ o → cond (is_eq o) (Some c.1) (found cs) ≡ Some names
            → (found cs ≡ Some names → without_one client name (all_locks cs) ≡ all_locks (set_value (is_at (nat_cmp client)) cs (without_cell name names)))
            → without_one client name (client_locks c.0 c.1 (all_locks cs)) ≡ all_locks
            (cond (is_eq o) ((c.0, without_cell name names) ∷ cs) (c ∷ set_value (is_at (nat_cmp client)) cs (without_cell name names)))
        by Less at now rest = fewer_other c.0 c.1 (all_locks cs) (number_by c.0 Less at) ∙ ap (λ (l : List ClientLock). client_locks c.0 c.1 l) (rest now)
        by Equal at now rest =
            let same : client ≡ c.0 = eqb-true client c.0 (sym (unsigned_tied client c.0) ∙ ap is_eq at) in
            fewer_own c.0 c.1 (all_locks cs) (number_by c.0 Equal at) (any_above cs (rw same sorted.0))
            ∙ ap (λ (l : List CellName). client_locks c.0 (without_cell name l) (all_locks cs)) (ap cells_in now)
        by Greater at now rest = fewer_other c.0 c.1 (all_locks cs) (number_by c.0 Greater at) ∙ ap (λ (l : List ClientLock). client_locks c.0 c.1 l) (rest now)

    pub none_fewer_there : (cs : Clients) → IsSorted cs → found cs ≡ None → without_one client name (all_locks cs) ≡ all_locks cs
    none_fewer_there cs sorted none = none_fewer own (all_locks cs) (has_one cs sorted ∙ ap (λ (o : Option (List CellName)). has_cell name (cells_in o)) none)

    -- ---- by what is known of the entry
    pub adds : {U E : Type 0} (result : Result U E) (cs cs' : Clients) (names names' : List CellName) → IsSorted cs → found cs ≡ Some names
        → cs' ≡ set_value (is_at (nat_cmp client)) cs names'
        → OnOk result (names' ≡ with_locked_cell name names) → OnOk result (all_locks cs' ≡ with_one client name (all_locks cs))
    adds (Ok u) cs cs' names names' sorted there set is =
        ap (λ (l : Clients). all_locks l) set ∙ ap (λ (l : List CellName). all_locks (set_value (is_at (nat_cmp client)) cs l)) is
        ∙ sym (one_more cs names sorted there)
    adds (Err e) cs cs' names names' sorted there set is = tt

    pub adds_none : {U E : Type 0} (result : Result U E) (cs cs' : Clients) (names names' : List CellName) → found cs ≡ Some names
        → cs' ≡ set_value (is_at (nat_cmp client)) cs names'
        → OnErr result (names' ≡ names) → OnErr result (all_locks cs' ≡ all_locks cs)
    adds_none (Ok u) cs cs' names names' there set is = tt
    adds_none (Err e) cs cs' names names' there set is =
        ap (λ (l : Clients). all_locks l) (set ∙ ap (λ (l : List CellName). set_value (is_at (nat_cmp client)) cs l) is
        ∙ set_value_same (is_at (nat_cmp client)) cs names there)

    pub takes : (cs cs' : Clients) (names names' : List CellName) → IsSorted cs → found cs ≡ Some names → cs' ≡ set_value (is_at (nat_cmp client)) cs names'
        → names' ≡ without_cell name names
        → all_locks cs' ≡ without_one client name (all_locks cs)
    takes cs cs' names names' sorted there set is =
        ap (λ (l : Clients). all_locks l) set ∙ ap (λ (l : List CellName). all_locks (set_value (is_at (nat_cmp client)) cs l)) is
        ∙ sym (one_fewer cs names sorted there)

  pub begins : {U E : Type 0} (result : Result U E) (cs cs' : Clients) (names : List CellName) → names ≡ [] → found cs ≡ None
      → OnOk result (cs' ≡ insert_entry nat_cmp cs client names) → OnErr result (cs' ≡ cs) → all_locks cs' ≡ all_locks cs
  begins (Ok u) cs cs' names empty none put same = ap (λ (l : Clients). all_locks l) put
      ∙ ap (λ (l : List CellName). all_locks (insert_entry nat_cmp cs client l)) empty ∙ begun cs none
  begins (Err e) cs cs' names empty none put same = ap (λ (l : Clients). all_locks l) same
