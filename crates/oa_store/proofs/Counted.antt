-- A checkpoint of what fits a bank makes at most so many calls.
use Rattle.std.proofs.Common.{ℕ, ◌+◌, ◌*◌, ◌≤◌, List, arith, length}
use Rattle.oa_table.specs.promise.Tables.{TableValue}
use Rattle.oa_image.specs.promise.Tables.{FitsBank}
use Rattle.oa_model.specs.promise.Limits.{max_library_bytes}
use Rattle.oa_store.specs.promise.Stores.{checkpoint_calls, most_checkpoint_calls}

-- A library and a table that a bank takes are no more than its body.
pub calls_of_fitting : (bank : ℕ) (text : List ℕ) (table : TableValue) → length text ≤ max_library_bytes → FitsBank bank table
    → checkpoint_calls text table ≤ most_checkpoint_calls bank
calls_of_fitting bank text table short fits = omega (arith, short, fits)

pub within : (bank : ℕ) (text : List ℕ) (table : TableValue) (now before : ℕ) → length text ≤ max_library_bytes → FitsBank bank table
    → now ≤ before + 2 * checkpoint_calls text table → now ≤ before + 2 * most_checkpoint_calls bank
within bank text table now before short fits calls = on (checkpoint_calls text table) (most_checkpoint_calls bank)
    (calls_of_fitting bank text table short fits) calls
  where
    on : (few most : ℕ) → few ≤ most → now ≤ before + 2 * few → now ≤ before + 2 * most
    on few most less le = omega (arith, less, le)
