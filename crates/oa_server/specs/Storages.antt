-- Definitions for contracts and proofs, beside promise/Storages.
use Rattle.std.specs.Prelude.{◌≡◌, ℕ, List, ⊤}
use Rattle.oa_disk.specs.declared.disk.Disk.{Ghosts}
use Rattle.oa_journal.specs.promise.Bank.{body_bytes}
use Rattle.oa_journal.specs.Shapes.{default_bank_bytes}
use Rattle.oa_record.specs.promise.Replies.{ReplyValue}
use Rattle.oa_server.specs.declared.storage.Storage.{Storage}
use Rattle.oa_server.specs.declared.storage.Storage.TheVariants.{Disk, Memory}
use Rattle.oa_server.specs.Answers.{IsAnswered}
use Rattle.oa_decision.specs.promise.States.{State}
use Rattle.oa_turn.specs.promise.Turns.{Turn}

-- the table is only in memory
abbrev pub InMemory : {D : Type 0} {g : Ghosts D} → Storage D g → Type 0
InMemory (Memory disk) = ⊤
InMemory (Disk store) = ⊥

-- the size in bytes of a bank's body, into which the table must fit
abbrev pub bank_bytes_of : {D : Type 0} {g : Ghosts D} → Storage D g → ℕ
bank_bytes_of (Memory disk) = default_bank_bytes
bank_bytes_of (Disk store) = body_bytes store.bank.shape

-- One body is answered: by a turn in memory, without a call of the disk, or over a store.
abbrev pub AnswersOne : {D : Type 0} {g : Ghosts D} → Storage D g → Storage D g → State → List ℕ → ReplyValue → State
    → Type 0
AnswersOne (Memory old) (Memory new) before body reply after = (new ≡ old) × Turn before body reply after
AnswersOne (Disk old) (Disk new) before body reply after = IsAnswered old new before after body reply
AnswersOne (Memory old) (Disk new) before body reply after = ⊥
AnswersOne (Disk old) (Memory new) before body reply after = ⊥
