-- The result of a call that may refuse a change, and the table after it. (This project's choice.)
use Rattle.std.specs.Prelude.{Result, Ok, Err}
use Rattle.oa_table.specs.declared.fault.TableFault.{TableFault}

-- the result for a whole, given that for a part
abbrev pub mapped : {A B : Type 0} → (A → B) → Result A TableFault → Result B TableFault
mapped f (Ok x) = Ok (f x)
mapped f (Err fault) = Err fault
