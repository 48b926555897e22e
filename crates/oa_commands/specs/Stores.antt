-- The disks that the commands on a store return or read. (This project's choice.)
use Rattle.std.specs.Prelude.{ℕ, IsTrue, List, max, min}
use Rattle.oa_printer.specs.promise.Canonical.{canonical}
use Rattle.oa_sema.specs.promise.IsLibrary.{IsLibrary}
use Rattle.oa_disk.specs.declared.disk.Disk.{Ghosts}
use Rattle.oa_disk.specs.After.{BeginsHonest}
use Rattle.oa_idl.specs.promise.Trees.{TreeValue}
use Rattle.oa_journal.specs.declared.shape.BankFormat.TheVariants.{Two}
use Rattle.oa_journal.specs.promise.Bank.{first_gate, least_bank_bytes, most_bank_bytes}
use Rattle.oa_store.specs.promise.Faults.{IsMigrated}
use Rattle.oa_store.specs.Openings.{FindsAny}
use Rattle.oa_store.specs.promise.Stores.{IsStoreAt}
use Rattle.oa_table.specs.promise.Tables.{TableValue}
use Rattle.oa_table.specs.Tables.{first_table}

-- the nearest size that a bank can have, from 20 MiB to 1 GiB
abbrev pub bank_near : ℕ → ℕ
bank_near size = max least_bank_bytes (min size most_bank_bytes)

-- Each image of a disk is the store of a library of some text, without objects, with banks of this size.
pub record IsNewlyFormatted {D : Type 0} (g : Ghosts D) (size : ℕ) (disk : D) : Type 0 where
  pub text : List ℕ
  pub library : TreeValue
  pub stands : IsLibrary text library
  pub stored : (c : List ℕ) → g.image disk c
      → IsStoreAt (Two size) 0 (first_gate (canonical library) first_table) (canonical library) first_table c

-- A disk had a store of format 1. Each image is now one of format 2 with the same library and table, none of them too
-- large for a server, as long as each read returned the contents.
pub record IsUpgraded {D : Type 0} (g : Ghosts D) (size : ℕ) (disk : D) : Type 0 where
  pub before : D
  pub begins : BeginsHonest g before
  pub upgraded : IsTrue (g.is_honest disk) → IsMigrated size (g.contents before) (g.image disk)

-- A disk was read, and this library and this table were found.
pub record WasRead {D : Type 0} (g : Ghosts D) (library : List ℕ) (table : TableValue) : Type 0 where
  pub before : D
  pub after : D
  pub begins : BeginsHonest g before
  pub found : FindsAny g before after library table
