-- Definitions for contracts and proofs, beside promise/Sizes.
use Rattle.std.specs.Prelude.{◌≡◌, ◌≤◌, ◌+◌, ◌*◌, ◌^◌, ℕ, Option, Some, None, Result, Ok, Err}
use Rattle.oa_formats.specs.Lengths.{max_value_image}
use Rattle.oa_table.specs.declared.event.Event.{Event}
use Rattle.oa_table.specs.declared.fault.TableFault.{TableFault}
use Rattle.oa_table.specs.promise.Events.{applied}
use Rattle.oa_table.specs.promise.Tables.{ObjectValue, TableValue}
use Rattle.oa_table.specs.promise.Sizes.{object_size, table_size}

-- the most bytes of a cell, whose place has at most as many as the largest value
abbrev pub largest_cell : ℕ
largest_cell = 2 * max_value_image

-- the most bytes of an object, whose number of cells has 64 bits
abbrev pub largest_object : ℕ
largest_object = 24 + largest_cell * 2 ^ 64

abbrev pub size_in : Option ObjectValue → ℕ
size_in None = 0
size_in (Some object) = object_size object

-- the size after a change; if it is refused, the size of what stays
abbrev pub size_due : {T : Type 0} → (T → ℕ) → Result T TableFault → T → ℕ
size_due size (Ok new) old = size new
size_due size (Err fault) old = size old

abbrev pub size_after : Event → TableValue → ℕ
size_after event table = size_due table_size (applied event table) table

-- the greatest size of an image whose table fits into any memory
abbrev pub largest_image : ℕ
largest_image = 9223372036854775807

-- the size that is kept with a table
pub record HasKeptSize (table : TableValue) (size : ℕ) : Type 0 where
  pub sum : size ≡ table_size table
  pub small : size ≤ largest_image
