-- Locks of cells: part of a table's value, but not of its image. (This project's choice.)
use Rattle.std.specs.Prelude.{Result}
use Rattle.oa_table.specs.declared.fault.TableFault.{TableFault}
use Rattle.oa_table.specs.declared.name.CellName.{CellName}
use Rattle.oa_table.specs.promise.Elements.{locked_value, released_value}
use Rattle.oa_table.specs.promise.Events.{on_object}
use Rattle.oa_table.specs.promise.Objects.{with_change}
use Rattle.oa_table.specs.promise.Tables.{TableValue}

-- the table with one more lock
abbrev pub with_lock : CellName → TableValue → Result TableValue TableFault
with_lock name table = on_object name.object (with_change name.place locked_value) table

-- the table with one lock fewer
abbrev pub without_lock : CellName → TableValue → Result TableValue TableFault
without_lock name table = on_object name.object (with_change name.place released_value) table
