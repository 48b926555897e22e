-- Locks with their owners, in the order of the clients and then of the cells. (This project's choice.)
use Rattle.std.specs.Prelude.{ℕ, ◌==◌, ◌&&◌, not, Bool, if◌then◌else◌, List, [], ◌∷◌, filter}
use Rattle.std.specs.List.{list_any}
use Rattle.std.specs.Ordering.{is_eq, match_ordering, nat_cmp, on, then_cmp}
use Rattle.std.specs.declared.cmp.Ordering.{Ordering}
use Rattle.oa_table.specs.promise.Places.{place_cmp}
use Rattle.oa_table.specs.declared.name.CellName.{CellName}

-- a lock of the array in a cell, and its client
pub record ClientLock : Type 0 where
  pub client : ℕ
  pub name : CellName

-- whether two names are those of one cell
abbrev pub is_cell : CellName → CellName → Bool
is_cell one two = (one.object == two.object) && is_eq (place_cmp one.place two.place)

-- by the object's number, then by the place in it
abbrev pub cell_cmp : CellName → CellName → Ordering
cell_cmp = then_cmp (on (λ name. name.object) nat_cmp) (on (λ name. name.place) place_cmp)

-- by the client's number, then by the cell
abbrev pub lock_cmp : ClientLock → ClientLock → Ordering
lock_cmp = then_cmp (on (λ lock. lock.client) nat_cmp) (on (λ lock. lock.name) cell_cmp)

-- whether it is a lock of this client on this cell
abbrev pub is_lock_of : ℕ → CellName → ClientLock → Bool
is_lock_of client name lock = (lock.client == client) && is_cell lock.name name

-- whether the client has a lock of the cell
abbrev pub owns : ℕ → CellName → List ClientLock → Bool
owns client name locks = list_any (is_lock_of client name) locks

-- in order, with one more, which may occur several times
abbrev pub with_more : {X : Type 0} → (X → X → Ordering) → X → List X → List X
with_more cmp new [] = new ∷ []
with_more cmp new (x ∷ xs) =
    match_ordering (cmp new x) (new ∷ x ∷ xs) (x ∷ x ∷ xs) (x ∷ with_more cmp new xs)

-- without the first that passes the test
abbrev pub without_first : {X : Type 0} → (X → Bool) → List X → List X
without_first test [] = []
without_first test (x ∷ xs) = if test x then xs else x ∷ without_first test xs

-- the locks with one more, of this client on this cell
abbrev pub with_one : ℕ → CellName → List ClientLock → List ClientLock
with_one client name locks = with_more lock_cmp (record { client = client; name = name }) locks

-- the locks without one that the client has of the cell
abbrev pub without_one : ℕ → CellName → List ClientLock → List ClientLock
without_one client name locks = without_first (is_lock_of client name) locks

-- those of all others
abbrev pub of_others : ℕ → List ClientLock → List ClientLock
of_others client locks = filter (λ lock. not (lock.client == client)) locks

-- the cell of each of the client's locks
unfoldable pub cells_of : ℕ → List ClientLock → List CellName
cells_of client [] = []
cells_of client (lock ∷ locks) = if lock.client == client then lock.name ∷ cells_of client locks
    else cells_of client locks
