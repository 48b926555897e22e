-- What is left to do in a turn after its body was read. (This project's choice.)
use Rattle.std.specs.Prelude.{◌≡◌}
use Rattle.oa_table.specs.promise.Tables.{unlocked_table}
use Rattle.oa_decision.specs.promise.States.{State}

-- the library of a state, and what images contain of it, are the same
pub record HoldsSame (old new : State) : Type 0 where
  pub table : unlocked_table new.table ≡ unlocked_table old.table
  pub library : new.library ≡ old.library
