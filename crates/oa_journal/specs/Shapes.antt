-- Definitions for contracts and proofs, beside promise/Bank.
use Rattle.std.specs.Prelude.{ℕ}
use Rattle.oa_journal.specs.promise.Bank.{least_bank_bytes}

-- the default size of a body in a new store, in bytes
abbrev pub default_bank_bytes : ℕ
default_bank_bytes = least_bank_bytes
