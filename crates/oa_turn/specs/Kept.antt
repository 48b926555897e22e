-- The representation of locks: a count for each client and cell. (This project's choice.)
use Rattle.std.specs.Prelude.{ℕ, zero, suc, ◌<◌, Bool, List, [], ◌∷◌, ◌++◌}
use Rattle.std.specs.List.{AllByRecursion, list_any}
use Rattle.oa_turn.specs.promise.ClientLocks.{ClientLock, cell_cmp, is_cell, with_more, without_first}
use Rattle.oa_table.specs.declared.name.CellName.{CellName}

-- a name a number of times, and then others
abbrev pub copies : ℕ → CellName → List CellName → List CellName
copies zero name rest = rest
copies (suc n) name rest = name ∷ copies n name rest

-- each name as often as it is counted
abbrev pub each_counted : List (CellName × ℕ) → List CellName
each_counted [] = []
each_counted (e ∷ es) = copies e.1 e.0 (each_counted es)

-- no count is 0
abbrev pub AreCounted : List (CellName × ℕ) → Type 0
AreCounted es = AllByRecursion (λ e. 0 < e.1) es

-- whether a cell occurs, and the cells with one more and one fewer
abbrev pub has_cell : CellName → List CellName → Bool
has_cell name names = list_any (λ other. is_cell other name) names

abbrev pub with_locked_cell : CellName → List CellName → List CellName
with_locked_cell name names = with_more cell_cmp name names

abbrev pub without_cell : CellName → List CellName → List CellName
without_cell name names = without_first (λ other. is_cell other name) names

-- a client's locks of cells, and then others
abbrev pub client_locks : ℕ → List CellName → List ClientLock → List ClientLock
client_locks client [] rest = rest
client_locks client (name ∷ names) rest =
    record { client = client; name = name } ∷ client_locks client names rest

-- those of all clients
abbrev pub all_locks : List (ℕ × List CellName) → List ClientLock
all_locks [] = []
all_locks (c ∷ cs) = client_locks c.0 c.1 (all_locks cs)

-- and the cells that they are of
abbrev pub all_locked_cells : List (ℕ × List CellName) → List CellName
all_locked_cells [] = []
all_locked_cells (c ∷ cs) = c.1 ++ all_locked_cells cs
