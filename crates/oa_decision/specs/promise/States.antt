-- What a server's replies depend on: the size of a bank's body in bytes, which does not change, the library, and the
-- table of objects. (This project's choice.)
use Rattle.std.specs.Prelude.{ℕ}
use Rattle.oa_idl.specs.promise.Trees.{TreeValue}
use Rattle.oa_table.specs.promise.Tables.{TableValue}

pub record State : Type 0 where
  pub bank : ℕ
  pub library : TreeValue
  pub table : TableValue

abbrev pub state_of : ℕ → TreeValue → TableValue → State
state_of bank library table = record { bank = bank; library = library; table = table }
