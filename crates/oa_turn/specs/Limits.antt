-- The tables that a server can have. (This project's choice.)
use Rattle.std.specs.Prelude.{◌≡◌, ◌+◌, ℕ, true}
use Rattle.oa_image.specs.promise.Tables.{FitsBank, is_numbered, reserved_bytes}
use Rattle.oa_table.specs.promise.Tables.{TableValue}

-- the least size in bytes of a bank's body: what must be left free, and the image of a table without objects
abbrev pub least_bank : ℕ
least_bank = reserved_bytes + 8

-- What is always true of a server's table: its objects have numbers from 1 to below the next one, and its image
-- leaves enough of a bank of this size free.
pub record IsSoundTable (bank : ℕ) (table : TableValue) : Type 0 where
  pub numbered : is_numbered table ≡ true
  pub small : FitsBank bank table
