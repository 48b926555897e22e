-- Theorems about sessions of a server over a store, besides those of any groups. (This project's choice.)
use Rattle.std.specs.Prelude.{◌≡◌, ◌≤◌, ℕ, IsTrue, false, List, [], ◌++◌, map}
use Rattle.oa_disk.specs.promise.Disk.{NothingPending}
use Rattle.oa_disk.specs.declared.disk.Disk.{Ghosts}
use Rattle.oa_group_commit.specs.promise.Groups.{MayBeLeft, HoldsPrefix, HoldsState, IsServed, AnsweredCall}
use Rattle.oa_group_commit.specs.promise.Groups.{IsSessionOn, OpenSession, concat_groups, Exchange, StateMachine}
use Rattle.oa_group_commit.specs.promise.Groups.{body_of, reply_of}
use Rattle.oa_group_commit.specs.Sessions.{answered_by}
use Rattle.oa_printer.specs.promise.Canonical.{canonical}
use Rattle.oa_idl.specs.promise.Trees.{TreeValue}
use Rattle.oa_record.specs.promise.Replies.{ReplyValue}
use Rattle.oa_journal.specs.declared.shape.BankFormat.TheVariants.{Two}
use Rattle.oa_journal.specs.promise.Bank.{body_bytes}
use Rattle.oa_store.specs.promise.Stores.{IsStoreIn}
use Rattle.oa_store.specs.declared.store.Store.{Store}
use Rattle.oa_table.specs.promise.Tables.{TableValue, unlocked_table}
use Rattle.oa_typelib.specs.promise.Checked.{IsChecked}
use Rattle.oa_server.specs.promise.ServerMachine.{IsOpened, opened, server_machine}
use Rattle.oa_decision.specs.promise.States.{State, state_of}
use Rattle.oa_server.specs.promise.Storages.{Part, Parts}
use Rattle.oa_server.specs.Talks.{calls_of}
use Rattle.oa_turn.specs.promise.Turns.{Run}
use Rattle.oa_server.specs.declared.storage.Storage.TheVariants.{Disk}

-- If a crash may leave only the contents of the disk, an opening begins a session, of one client or of many, with the
-- table that it finds.
abbrev pub OpenedBegins : {S R D : Type 0} → StateMachine S R → (State → S) → Ghosts D → Type 0
OpenedBegins {D = D} t serving g =
    (disk : D) (library : TreeValue) (store : Store D g) (table : TableValue) → IsOpened g disk library store table
    → IsTrue (g.is_honest store.disk) → NothingPending g.contents g.image disk
    → OpenSession t disk store (serving (state_of (body_bytes store.bank.shape) library table))
    (serving (state_of (body_bytes store.bank.shape) library table)) []

-- If something was pending, an opening continues what came before: a crash at the end of that may leave the contents
-- of the opened disk, and what a crash during the opening leaves. With these contents, which have the table that was
-- found, a session begins.
abbrev pub OpenedJoins : {D : Type 0} → Ghosts D → Type 0
OpenedJoins {D} g =
    (disk : D) (library : TreeValue) (store : Store D g) (table : TableValue) → IsOpened g disk library store table
    → IsTrue (g.is_honest store.disk)
    → OpenSession server_machine store.disk store (state_of (body_bytes store.bank.shape) library table)
    (state_of (body_bytes store.bank.shape) library table) []
    × MayBeLeft g disk (g.moment disk) (g.contents store.disk)
    × HoldsState server_machine (state_of (body_bytes store.bank.shape) library table) (g.contents store.disk)
    × ((m : ℕ) (c : List ℕ) → g.moment disk ≤ m → MayBeLeft g store.disk m c → MayBeLeft g disk (g.moment disk) c)

-- What recovery finds in an image that a crash may leave is the state of that store, without locks: its banks, its
-- library and its table.
abbrev pub FoundIsKept : Type 0
FoundIsKept =
    (bank : ℕ) (library : TreeValue) (first : State) (count : ℕ) (groups : List (List (Exchange ReplyValue)))
    (image : List ℕ) (table : TableValue)
    → IsChecked library → IsChecked first.library → (after : HoldsPrefix server_machine count first groups image)
    → IsStoreIn (Two bank) image (canonical library) table → unlocked_table table ≡ table
    → opened after.state ≡ state_of bank library table

-- The parts of a session over streams belong to a session over the store, call by call.
abbrev pub PartsGoOn : {D : Type 0} → Ghosts D → Type 0
PartsGoOn {D} g =
    (start : D) (mid new : Store D g) (first last after : State) (calls : List (AnsweredCall ReplyValue)) (size : ℕ)
    (parts : List Part) → OpenSession server_machine start mid first last calls
    → Parts size (Disk mid) (Disk new) last parts after
    → new.stopped ≡ false → OpenSession server_machine start new first after (calls ++ calls_of size parts)

-- They are calls of the session also if the device fails in one of them: from its start on, everything answered
-- before them counts.
abbrev pub PartsCount : {D : Type 0} → Ghosts D → Type 0
PartsCount {D} g =
    (start : D) (mid new : Store D g) (first last after : State) (calls : List (AnsweredCall ReplyValue)) (size : ℕ)
    (parts : List Part)
    → (was : OpenSession server_machine start mid first last calls) → mid.stopped ≡ false
    → Parts size (Disk mid) (Disk new) last parts after
    → (session : IsSessionOn server_machine g start new.disk first (calls ++ calls_of size parts) after)
    × (session.stopped ≡ new.stopped)
    × ((m : ℕ) → g.moment mid.disk ≤ m → was.session.count ≤ answered_by m session.moments)

-- In a call on a store, the bodies of the answered groups have the replies of one run of turns; without a fault of
-- the device all bodies have.
abbrev pub AnsweredAreRun : {D : Type 0} → Ghosts D → Type 0
AnsweredAreRun {D} g =
    (size : ℕ) (old new : Store D g) (before after : State) (bodies : List (List ℕ)) (replies : List ReplyValue)
    → (is : IsServed server_machine size old new before after bodies replies)
    → (mid : State) × (others : List (List ℕ)) × (rest : List ReplyValue)
    × Run before (map body_of (concat_groups is.groups)) (map reply_of (concat_groups is.groups)) mid
    × (bodies ≡ map body_of (concat_groups is.groups) ++ others) ×
    (replies ≡ map reply_of (concat_groups is.groups) ++ rest)
    × (new.stopped ≡ false → (others ≡ []) × (rest ≡ []) × (mid ≡ after))
