-- Definitions for contracts and proofs, beside promise/Tables.
use Rattle.std.specs.Prelude.{[]}
use Rattle.oa_table.specs.promise.Tables.{TableValue}

-- the first table
abbrev pub first_table : TableValue
first_table = record { next = 1; objects = [] }
