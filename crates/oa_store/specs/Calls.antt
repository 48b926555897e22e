-- Definitions for contracts and proofs, beside promise/Stores.
use Rattle.std.specs.Prelude.{ℕ, ◌+◌, List}
use Rattle.oa_table.specs.Tables.{first_table}
use Rattle.oa_store.specs.promise.Stores.{piece_count}

-- a format: the first byte, a sync, the head, the pieces of the body, the selector, a sync, the first byte and a sync
abbrev pub format_calls : List ℕ → ℕ
format_calls library = 7 + piece_count library first_table
