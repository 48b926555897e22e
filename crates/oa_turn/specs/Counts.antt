-- The number of locks of the array in a cell: that of all clients together. (This project's
-- choice.)
use Rattle.std.specs.Prelude.{◌≡◌, ℕ, ◌+◌, if◌then◌else◌, List, [], ◌∷◌, map}
use Rattle.std.specs.List.Sorted.{IsStrictlySortedBy}
use Rattle.std.specs.Map.{keys_of}
use Rattle.std.specs.Ordering.{nat_cmp}
use Rattle.oa_turn.specs.promise.ClientLocks.{ClientLock, is_cell}
use Rattle.oa_table.specs.Locks.{locks_at}
use Rattle.oa_table.specs.promise.Tables.{TableValue}
use Rattle.oa_table.specs.declared.name.CellName.{CellName}

-- how many of these names are those of a cell
unfoldable pub count_in : CellName → List CellName → ℕ
count_in name [] = 0
count_in name (other ∷ names) = (if is_cell other name then 1 else 0) + count_in name names

abbrev pub locked_name : ClientLock → CellName
locked_name lock = lock.name

-- Each array has one lock for each occurrence of its name, and no others.
abbrev pub HasLocks : List CellName → TableValue → Type 0
HasLocks names table = (name : CellName) → locks_at name table ≡ count_in name names

-- The locks of a table, whose objects are in the order of their numbers, are those of the clients.
pub record IsLedger (locks : List ClientLock) (table : TableValue) : Type 0 where
  pub ordered : IsStrictlySortedBy nat_cmp (keys_of table.objects)
  pub counted : HasLocks (map locked_name locks) table
