-- The results of a server's calls over a disk that fails from some call on, and what is found on it afterwards.
use Rattle.std.specs.Prelude.{◌≡◌, ℕ, ◌+◌, ◌-◌, Bool, false, true, List, [], ◌∷◌, length, Result, IfOk, IfErr}
use Rattle.std.specs.Global.{Vec}
use Rattle.oa_disk.specs.promise.Fuse.{calls_left_of, inner_of}
use Rattle.oa_disk.specs.promise.Memory.{memory_contents, memory_image}
use Rattle.oa_disk.specs.declared.disk.DeviceFault.{DeviceFault}
use Rattle.oa_disk.specs.declared.disk.Disk.{Ghosts}
use Rattle.oa_disk.specs.declared.fuse.FuseDisk.{FuseDisk}
use Rattle.oa_disk.specs.declared.memory.MemoryDisk.{MemoryDisk}
use Rattle.oa_group_commit.specs.promise.Groups.{AllHoldState, HoldsPrefix, HoldsState, AnsweredCall, ServesCalls}
use Rattle.oa_group_commit.specs.promise.Groups.{Exchange}
use Rattle.oa_printer.specs.promise.Canonical.{canonical}
use Rattle.oa_record.specs.promise.Replies.{ReplyValue}
use Rattle.oa_idl.specs.promise.Trees.{TreeValue}
use Rattle.oa_server.specs.promise.ServerMachine.{IsNotOpened, IsOpened, opened, server_machine}
use Rattle.oa_store.specs.declared.fault.OpenFault.TheVariants.{Device}
use Rattle.oa_turn.specs.promise.Events.{held_of}
use Rattle.oa_decision.specs.promise.States.{State}
use Rattle.oa_server.specs.promise.Storages.{OverStore, Serves, disk_of}
use Rattle.oa_server.specs.declared.server.Server.{Server}
use Rattle.oa_server.specs.declared.storage.Storage.{Storage}
use Rattle.oa_history.specs.promise.CrashHistories.{IsRecovered, call_bodies}
use Rattle.oa_history.specs.declared.failing.FaultyServer.{FaultyServer}
use Rattle.oa_history.specs.declared.failing.CallOutcome.{CallOutcome}
use Rattle.oa_history.specs.declared.session.ServerCall.{ServerCall}
use Rattle.oa_history.specs.declared.surviving.FaultHistory.{FaultHistory}

-- ---- the calls of a server

-- one call as a part of a session
abbrev pub told_call : ServerCall → CallOutcome → AnsweredCall ReplyValue
told_call call told = record { size = call.group; bodies = call_bodies call; replies = told.replies.items }

abbrev pub told_calls : List ServerCall → List CallOutcome → List (AnsweredCall ReplyValue)
told_calls [] told = []
told_calls (call ∷ calls) [] = []
told_calls (call ∷ calls) (one ∷ told) = told_call call one ∷ told_calls calls told

-- Calls of a server, each made after the one before had returned: each with the contract of `run`, and with the
-- number of calls of the disk that had failed when it returned. If one had failed before, the disk after the call is
-- the disk before it (`late`).
abbrev pub Answered : {D : Type 0} {g : Ghosts D} → Storage D g → State → List ServerCall → List CallOutcome
    → Storage D g
    → State → Type 0
Answered old first [] [] new last = (new ≡ old) × (last ≡ first)
Answered {D} {g} old first (call ∷ calls) (one ∷ told) new last =
    (mid : Storage D g) × (state : State) × Serves call.group old mid first (call_bodies call) one.replies.items state
    × (one.failures ≡ g.failures_of (disk_of mid)) × Answered mid state calls told new last
Answered old first [] (one ∷ told) new last = ⊥
Answered old first (call ∷ calls) [] new last = ⊥

abbrev pub AnsweredBy : {D : Type 0} {g : Ghosts D} → Server D g → List ServerCall → List CallOutcome → Server D g
    → Type 0
AnsweredBy old calls told new =
    Answered old.engine.storage old.engine.host calls told new.engine.storage new.engine.host

-- ---- a disk that fails from some call on

-- A server was opened on a disk that passes the calls before number `first_failing` on to this disk, and fails each
-- one from there on. It serves the state.
pub record BeginsOver {g : Ghosts (FuseDisk MemoryDisk)} (disk : MemoryDisk) (first_failing : ℕ)
    (server : Server (FuseDisk MemoryDisk) g) (state : State) : Type 0 where
  pub fuse : FuseDisk MemoryDisk
  pub within : inner_of fuse ≡ disk
  pub passes : calls_left_of fuse ≡ first_failing - 1
  pub begins : IsRecovered fuse server state

-- each image is a store of the state
abbrev pub HoldsAlone : MemoryDisk → State → Type 0
HoldsAlone disk state = (c : List ℕ) → memory_image disk c → HoldsState server_machine state c

-- Such a server was opened, the calls were made, and it has returned the disk.
pub record IsPlayed (disk : MemoryDisk) (first_failing : ℕ) (calls : List ServerCall) (told : List CallOutcome)
    (before : State)
    (groups : List (List (Exchange ReplyValue))) (count : ℕ) (back : MemoryDisk) : Type 0 where
  pub first : FaultyServer
  pub begins : BeginsOver disk first_failing first.server before
  pub last : FaultyServer
  pub answered : AnsweredBy first.server calls told last.server
  pub handed_back : back ≡ inner_of (disk_of last.server.engine.storage)
  -- the replies are those of a run from the state before, group for group; if a call of the disk fails, the open
  -- group is answered with the fault, and everything after it is refused
  pub fault : Bool
  pub state : State
  pub plays : ServesCalls server_machine false before (told_calls calls told) groups count fault state
  -- this many groups were answered: all, or all but that one
  pub all : fault ≡ false → length groups ≡ count
  pub all_but_one : fault ≡ true → length groups ≡ count + 1

-- Opening a server on such a disk, with this library, failed by a fault of the device of this kind, and the disk was
-- returned.
pub record IsUnopened (g : Ghosts (FuseDisk MemoryDisk)) (disk : MemoryDisk) (first_failing : ℕ) (library : TreeValue)
    (fault : DeviceFault)
    (back : MemoryDisk) : Type 0 where
  pub fuse : FuseDisk MemoryDisk
  pub within : inner_of fuse ≡ disk
  pub passes : calls_left_of fuse ≡ first_failing - 1
  pub end : FuseDisk MemoryDisk
  pub handed_back : back ≡ inner_of end
  pub tells : IsNotOpened g fuse end library (Device fault)

-- The results of calls over such a disk, and what it may contain when it is returned.
pub record IsWithstood (g : Ghosts (FuseDisk MemoryDisk)) (disk : MemoryDisk) (first_failing : ℕ)
    (calls : List ServerCall) (told : Result (Vec CallOutcome) DeviceFault)
    (before : State)
    (back : MemoryDisk) : Type 0 where
  pub groups : List (List (Exchange ReplyValue))
  pub count : ℕ
  pub played : IfOk told (λ all. IsPlayed disk first_failing calls all.items before groups count back)
  -- no server was opened, with the fault as the reason, so there is no group
  pub unopened : IfErr told (λ fault. IsUnopened g disk first_failing before.library fault back × (groups ≡ []))
  -- all answered groups are kept, and the one in which the device failed, whole or not at all: in the contents, and
  -- in whatever a crash leaves
  pub kept : (c : List ℕ) → memory_image back c → HoldsPrefix server_machine count before groups c

-- ---- what is found then

-- A server was opened on the disk, whatever is pending, and serves the state, over a store of it.
pub record IsTakenUp {D : Type 0} {g : Ghosts D} (disk : D) (server : Server D g) (state : State) : Type 0 where
  pub host : server.engine.host ≡ state
  pub found : OverStore server.engine.storage (λ store. IsOpened g disk state.library store state.table)
  pub over : OverStore server.engine.storage (λ store. AllHoldState server_machine store state)

-- Calls over a store of a state, on a disk that fails from some call on; then the returned disk is opened, without
-- failures.
pub record IsSurvivedOn (g : Ghosts (FuseDisk MemoryDisk)) (disk : MemoryDisk) (state : State) (calls : List ServerCall)
    (first_failing : ℕ) (survived : FaultHistory) : Type 0 where
  pub back : MemoryDisk
  pub session_with_faults : IsWithstood g disk first_failing calls survived.told state back
  -- its contents
  pub kept : HoldsPrefix server_machine session_with_faults.count state session_with_faults.groups
      (memory_contents back)
  pub taken_up : IsTakenUp back survived.opened.server (opened kept.state)
  pub library : survived.library.items ≡ canonical kept.state.library
  pub table : survived.table ≡ held_of kept.state

-- Such a store is new, on a disk of this many bytes.
pub record IsFaultHistory (g : Ghosts (FuseDisk MemoryDisk)) (bytes : ℕ) (state : State) (calls : List ServerCall)
    (first_failing : ℕ)
    (survived : FaultHistory) : Type 0 where
  pub new : MemoryDisk
  pub size : new.first.size ≡ bytes
  pub holds : HoldsAlone new state
  pub failing : IsSurvivedOn g new state calls first_failing survived
