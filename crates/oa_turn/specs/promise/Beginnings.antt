-- The states with which a server may begin. (This project's choice.)
use Rattle.std.specs.Prelude.{◌≡◌, ℕ, true}
use Rattle.oa_compat.specs.promise.Fits.{fits}
use Rattle.oa_idl.specs.promise.Trees.{TreeValue}
use Rattle.oa_image.specs.promise.Tables.{FitsBank, is_numbered}
use Rattle.oa_table.specs.promise.Tables.{TableValue}
use Rattle.oa_typelib.specs.promise.Checked.{IsChecked}
use Rattle.oa_decision.specs.promise.States.{State}

-- the table fits the library, and its image leaves enough of a bank of this size free
pub record CanServe (bank : ℕ) (library : TreeValue) (table : TableValue) : Type 0 where
  pub fit : fits library table ≡ true
  pub small : FitsBank bank table

-- a server may begin with this state: its library is a checked one, its table fits the library, and the objects are
-- numbered
pub record CanBegin (state : State) : Type 0 where
  pub checked : IsChecked state.library
  pub serves : CanServe state.bank state.library state.table
  pub numbered : is_numbered state.table ≡ true
