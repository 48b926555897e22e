-- Definitions for contracts and proofs, beside promise/Locks.
use Rattle.std.specs.Prelude.{ℕ, Bool, false, Option, Some, None}
use Rattle.oa_table.specs.declared.name.CellName.{CellName}
use Rattle.oa_table.specs.promise.Elements.{locks_in}
use Rattle.oa_table.specs.promise.Objects.{any_locked}
use Rattle.oa_table.specs.promise.Tables.{ObjectValue, TableValue, cell_in, object_at}

-- how many locks the array in a cell has; 0 if there is none
abbrev pub locks_at : CellName → TableValue → ℕ
locks_at name table = locks_in (cell_in name.place (object_at name.object table))

-- whether an array of an object is locked
abbrev pub locked_in : Option ObjectValue → Bool
locked_in None = false
locked_in (Some object) = any_locked object.cells
