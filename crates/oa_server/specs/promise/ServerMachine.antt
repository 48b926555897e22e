-- The requests of one client, and what the server sends for each.
use Rattle.std.specs.Prelude.{ℕ, List, None, ◌≡◌, ◌⊎◌, ◌+◌, ◌*◌, ◌≤◌, IsTrue, true, false, map, ◌≢◌, length, Some}
use Rattle.std.proofs.Common.{ap, refl}
use Rattle.oa_group_commit.specs.promise.Groups.{Exchange, StateMachine, LeavesState, AllHoldState, HoldsState}
use Rattle.oa_journal.specs.promise.Bank.{Replays, WritesNothing, body_bytes}
use Rattle.oa_turn.proofs.Relocked.{unlocked_twice}
use Rattle.oa_model.specs.promise.Codes.{e_fail, stg_e_writefault, bad_stub_data}
use Rattle.oa_record.specs.promise.Asks.{tag_at}
use Rattle.oa_printer.specs.promise.Canonical.{canonical}
use Rattle.oa_record.specs.promise.Replacement.{is_replacement}
use Rattle.oa_record.specs.promise.Replies.{ReplyValue, reply_head}
use Rattle.oa_table.specs.promise.Tables.{unlocked_table, TableValue}
use Rattle.oa_turn.proofs.NoTrace.{not_done, quiet_turn}
use Rattle.oa_turn.proofs.Tags.{turn_tag}
use Rattle.oa_turn.specs.promise.Events.{HasEvent, held_of, is_done}
use Rattle.oa_decision.specs.promise.States.{State}
use Rattle.oa_decision.specs.promise.Decided.{refusal}
use Rattle.oa_turn.proofs.SameLibrary.{plain_library, turn_bank}
use Rattle.oa_turn.specs.promise.Turns.{Turn}
use Rattle.oa_disk.specs.declared.disk.Disk.{Ghosts}
use Rattle.oa_store.specs.promise.Writing.{CallsForOneCheckpoint, DeviceFrame}
use Rattle.oa_store.specs.promise.Stores.{checkpoint_calls, IsForeign, IsStoreIn}
use Rattle.oa_store.specs.declared.store.Store.{Store}
use Rattle.oa_idl.specs.promise.Trees.{TreeValue}
use Rattle.oa_store.specs.promise.Holding.{EachIs}
use Rattle.oa_image.specs.promise.Tables.{is_numbered}
use Rattle.oa_journal.specs.declared.shape.BankFormat.TheVariants.{Two}
use Rattle.oa_store.specs.declared.fault.OpenFault.{OpenFault}
use Rattle.oa_store.specs.declared.fault.OpenFault.TheVariants.{Damaged, LibraryDiffers}
use Rattle.oa_store.specs.promise.Faults.{IsCausedOpenFault, ComesOfForeign, SpeaksOfContents, RefusalSays, DeviceTells}
use Rattle.oa_store.specs.promise.Faults.{moments_until}
use Rattle.oa_turn.specs.promise.Beginnings.{CanBegin, CanServe}

-- The requests of a server as a state machine of the theory of groups. (This project's choice.)

-- A turn, with the bytes of its event, which turn what images contain of the old state into what they contain of the
-- new one.
pub record IsAsked (asked : Exchange ReplyValue) (old new : State) : Type 0 where
  pub turn : Turn old asked.body asked.reply new
  pub made : HasEvent old asked.body asked.reply asked.event
  pub replays : Replays asked.event (held_of old) (held_of new)

-- the reply to a body in the group in which the device failed, and to one after that group
abbrev pub fault_reply : List ℕ → ReplyValue
fault_reply body = refusal (tag_at body) stg_e_writefault None

abbrev pub failed_reply : List ℕ → ReplyValue
failed_reply body = refusal (tag_at body) e_fail None

-- the reply that replaces another one if its group could not be committed
abbrev pub aborted_reply : ReplyValue → ReplyValue
aborted_reply reply = refusal reply.tag stg_e_writefault None

-- locks end with a session
abbrev pub opened : State → State
opened state = record state { table = unlocked_table state.table }

-- the text of a state's library
abbrev pub text_of_library : State → List ℕ
text_of_library state = canonical state.library

abbrev pub server_machine : StateMachine State ReplyValue
server_machine = record {
  bank = λ state. state.bank;
  text = text_of_library;
  held = held_of;
  barrier = is_replacement;
  Turn = IsAsked;
  faulted = fault_reply;
  failed = failed_reply;
  aborted = aborted_reply;
  is_done = is_done;
  opened = opened;
  reopens = λ state. (unlocked_twice state.table, refl, refl);
  sized = λ asked old new one. turn_bank old new asked.body asked.reply one.turn;
  stays = λ asked old new one plain. ap canonical (plain_library old new asked.body asked.reply one.turn plain);
  replays = λ asked old new one. one.replays;
  tells = λ asked old new one.
      ap (λ (tag : ℕ). refusal tag stg_e_writefault None) (turn_tag old new asked.body asked.reply one.turn);
  leaves = λ asked old new one is. quiet_turn old new asked.body asked.reply one.turn (not_done asked.reply is);
}

-- The reply to one body over a store, and what a crash at any point in time of it leaves. (This project's choice.)

-- A body that replaces the library makes at most the calls of a checkpoint with that library.
abbrev pub CallsForLibrary : {D : Type 0} {g : Ghosts D} → Store D g → Store D g → State → Type 0
CallsForLibrary {D} {g} old new after =
    IsTrue (g.is_honest old.disk)
    → g.moment new.disk ≤ g.moment old.disk + 2 * checkpoint_calls (canonical after.library) after.table

-- What a turn of opcode 12 over a store leaves, whether it is acknowledged or in doubt.
pub record ReplacesInStore {D : Type 0} {g : Ghosts D} (old new : Store D g) (before after : State) : Type 0 where
  pub same : unlocked_table after.table ≡ unlocked_table before.table
  -- a crash at any point in time leaves the old library or the new one, with the table
  pub any_moment : AllHoldState server_machine old before
      → LeavesState old new (λ c. HoldsState server_machine before c ⊎ HoldsState server_machine after c)
  pub each : new.stopped ≡ false → AllHoldState server_machine old before → AllHoldState server_machine new after
  pub calls : CallsForLibrary old new after
  pub once : CallsForOneCheckpoint old new
  pub goes : DeviceFrame old new

-- The device has failed before: all bodies get this reply, and nothing is done.
pub record AnswersAfterFault {D : Type 0} {g : Ghosts D} (old new : Store D g) (before after : State)
    (bodies : List (List ℕ))
    (replies : List ReplyValue) : Type 0 where
  pub told : replies ≡ map failed_reply bodies
  pub state : after ≡ before
  pub disk : new.disk ≡ old.disk
  pub stopped : new.stopped ≡ true

-- The result of opening a disk. (This project's choice.)

-- ---- one of two states, as a stop leaves them

-- each image is a store of one of two states
abbrev pub EachOneOf : (List ℕ → Type 0) → State → State → Type 0
EachOneOf image one two = (c : List ℕ) → image c → HoldsState server_machine one c ⊎ HoldsState server_machine two c

-- what was found is what an image contains of the state
pub record FindsState (bank : ℕ) (library : TreeValue) (table : TableValue) (state : State) : Type 0 where
  pub bank_is : bank ≡ state.bank
  pub text : canonical library ≡ canonical state.library
  pub table_is : table ≡ held_of state

-- if a crash has left one of two states, it is one of them
abbrev pub FindsOneOf : (List ℕ → Type 0) → ℕ → TreeValue → TableValue → Type 0
FindsOneOf image bank library table =
    (one two : State) → EachOneOf image one two → FindsState bank library table one ⊎ FindsState bank library table two

-- the contents are a store of a state with another library
abbrev pub HoldsOther : List ℕ → TreeValue → State → Type 0
HoldsOther contents library state = HoldsState server_machine state contents ×
    (canonical state.library ≢ canonical library)

-- If a crash has left one of two states with which a server may begin, only the library can be refused: the contents
-- are a store of another one.
abbrev pub RefusesOneOf : (List ℕ → Type 0) → List ℕ → TreeValue → OpenFault → Type 0
RefusesOneOf image contents library fault =
    (one two : State) → EachOneOf image one two → CanBegin one → CanBegin two
    → (fault ≡ LibraryDiffers) × (HoldsOther contents library one ⊎ HoldsOther contents library two)

-- ---- what an opening answers

-- the contents are a store of the library and of a table with which no server of it may begin
pub record IsUnfit (library : TreeValue) (contents : List ℕ) (fault : OpenFault) : Type 0 where
  pub told : fault ≡ Damaged 0
  pub bank : ℕ
  pub table : TableValue
  pub holds : IsStoreIn (Two bank) contents (canonical library) table
  pub cannot : CanServe bank library table → ⊥

-- What an opening has found on an honest disk. It writes nothing; at the end each image is a store of the table, and
-- the contents were one at the start.
pub record OpensToTable {D : Type 0} (g : Ghosts D) (disk : D) (library : TreeValue) (store : Store D g)
    (table : TableValue) : Type 0 where
  pub honest : IsTrue (g.is_honest disk)
  pub reads : WritesNothing g.image g.moment g.image_since disk store.disk
  pub each : EachIs (g.image store.disk) store.bank.shape store.chosen store.bank.gate store.library.items table
  pub contents : IsStoreIn store.bank.shape (g.contents disk) (canonical library) table
  pub one : FindsOneOf (g.image disk) (body_bytes store.bank.shape) library table
  pub formatted : IsForeign (g.size_of disk) (g.contents disk) → ⊥

-- a store of the library was opened on the disk, with a table, which has no locks
pub record IsOpened {D : Type 0} (g : Ghosts D) (disk : D) (library : TreeValue) (store : Store D g)
    (table : TableValue) : Type 0 where
  pub serves : CanServe (body_bytes store.bank.shape) library table
  pub numbered : is_numbered table ≡ true
  pub unlocked : unlocked_table table ≡ table
  pub shape : store.bank.shape ≡ Two (body_bytes store.bank.shape)
  pub text : store.library.items ≡ canonical library
  pub goes_on : store.stopped ≡ false
  pub size : g.size_of store.disk ≡ g.size_of disk
  pub unfailed : g.failures_of store.disk ≡ g.failures_of disk
  -- at most ten calls, and one for every two bytes of snapshot and groups
  pub calls : IsTrue (g.is_honest store.disk)
      → g.moment store.disk + length (canonical library) ≤ g.moment disk + (20 + store.bank.gate)
  pub found : IsTrue (g.is_honest store.disk) → OpensToTable g disk library store table

-- What an error implies for an honest disk: it is true of the contents at the start, and nothing was written.
pub record IsTold {D : Type 0} (g : Ghosts D) (disk back : D) (library : TreeValue) (fault : OpenFault) : Type 0 where
  pub honest : IsTrue (g.is_honest disk)
  pub reads : WritesNothing g.image g.moment g.image_since disk back
  pub says : RefusalSays (Some (canonical library)) (g.size_of disk) (g.contents disk) fault
      ⊎ IsUnfit library (g.contents disk) fault
  -- a disk that is too small or not formatted is found to be so before memory is allocated
  pub early : IsForeign (g.size_of disk) (g.contents disk) → ComesOfForeign fault
  -- if the contents are a store of another library, the error is that, unless an allocation or the device fails
  pub differs : (state : State) → HoldsOther (g.contents disk) library state → SpeaksOfContents fault
      → fault ≡ LibraryDiffers
  -- if a crash has left one of two states, no other error is possible
  pub late : SpeaksOfContents fault → RefusesOneOf (g.image disk) (g.contents disk) library fault
  -- Read is returned after everything written is on the device, and Write if the first sync failed
  pub tells : DeviceTells (g.contents disk) (g.image disk) (g.image back) fault

-- nothing was opened, and the disk is returned
pub record IsNotOpened {D : Type 0} (g : Ghosts D) (disk back : D) (library : TreeValue)
    (fault : OpenFault) : Type 0 where
  pub size : g.size_of back ≡ g.size_of disk
  pub cause : IsCausedOpenFault (g.failures_of disk) (g.failures_of back) fault
  -- at most twelve calls, and one for every two bytes of the disk; two if it is no store, four for its format, six
  -- for its library
  pub calls : IsTrue (g.is_honest back) → g.moment back ≤ g.moment disk + moments_until (24 + g.size_of disk) fault
  pub told : IsTrue (g.is_honest back) → IsTold g disk back library fault

-- Sessions of a server over streams. (This project's choice.)

-- the reply to a record that is cut or too long: bad stub data, with tag 0
abbrev pub last_written : List ℕ
last_written = reply_head (refusal 0 bad_stub_data None)
