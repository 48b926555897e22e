-- What a commit, a checkpoint, an upgrade and a format may leave, as relations from an old image to a new one. All
-- hold for each library and table that the old image has. (This project's choice.)
use Rattle.std.specs.Prelude.{◌⊎◌, ℕ, List}
use Rattle.oa_table.specs.promise.Tables.{TableValue}
use Rattle.oa_journal.specs.declared.shape.BankFormat.{BankFormat}
use Rattle.oa_journal.specs.declared.shape.BankFormat.TheVariants.{Two}
use Rattle.oa_store.specs.promise.Stores.{IsStoreIn}

-- A store of the same library and the same table, in the old format or in format 2 with bodies of this size.
abbrev pub IsUpgrade : ℕ → List ℕ → List ℕ → Type 0
IsUpgrade size old new = (shape : BankFormat) (library : List ℕ) (table : TableValue)
    → IsStoreIn shape old library table
    → IsStoreIn shape new library table ⊎ IsStoreIn (Two size) new library table
