-- Definitions for contracts and proofs, beside promise/Holding.
use Rattle.std.specs.Prelude.{ℕ, ◌-◌, ◌<◌, ◌≤◌, List, length}
use Rattle.oa_disk.specs.declared.disk.Disk.{Ghosts}
use Rattle.oa_journal.specs.promise.Bank.{ample_bytes, body_bytes}
use Rattle.oa_store.specs.declared.store.Store.{Store}

-- If the batch has events, the largest group fits into the bank in use.
abbrev pub HasRoom : {D : Type 0} {g : Ghosts D} → List ℕ → Store D g → Type 0
HasRoom batch store = 0 < length batch → ample_bytes ≤ body_bytes store.bank.shape - store.bank.gate
