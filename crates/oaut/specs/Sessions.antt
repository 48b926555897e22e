-- The sessions of the program over standard input and output, of one client and of many. (This project's choice.)
use Rattle.std.specs.Prelude.{◌≡◌, ◌⊎◌, ℕ, Bool, true, false, List, [], Result, Ok, Err, max, min}
use Rattle.oa_sema.specs.promise.IsLibrary.{IsLibrary}
use Rattle.oa_commands.specs.Statuses.{IsOfLibrary, IsOfTaking, of_end, of_open, of_session_end}
use Rattle.oa_commands.specs.declared.fault.Fault.{Fault}
use Rattle.oa_commands.specs.declared.fault.Fault.TheVariants as faults
use Rattle.oa_decision.specs.promise.States.{State}
use Rattle.oa_disk.specs.After.{BeginsHonest}
use Rattle.oa_disk.specs.declared.disk.Disk.{Ghosts}
use Rattle.oa_frame.specs.Beginnings.{AreUnbroken}
use Rattle.oa_frame.specs.promise.Framings.{Frames, hex_lines, records}
use Rattle.oa_frame.specs.declared.session.Served.{Served}
use Rattle.oa_idl.specs.promise.Trees.{TreeValue}
use Rattle.oa_journal.specs.Shapes.{default_bank_bytes}
use Rattle.oa_model.specs.Limits.{max_group}
use Rattle.oa_server.specs.promise.ServerMachine.{IsOpened}
use Rattle.oa_server.specs.promise.SharedSessions.{IsSharedSession}
use Rattle.oa_server.specs.Storages.{InMemory, bank_bytes_of}
use Rattle.oa_server.specs.promise.Storages.{OverStore}
use Rattle.oa_server.specs.Talks.{HasTalkedInMemory, IsStoreSession}
use Rattle.oa_server.specs.declared.engine.ServerState.{ServerState}
use Rattle.oa_server.specs.declared.storage.Storage.{Storage}
use Rattle.oa_mux.specs.declared.session_end.SessionEnd.{SessionEnd}
use Rattle.oa_store.specs.declared.fault.OpenFault.{OpenFault}
use Rattle.oa_stream.specs.promise.Sink.{Output}
use Rattle.oa_stream.specs.promise.Source.{Input}
use Rattle.oa_table.specs.Tables.{first_table}

-- ---- over a reader and a writer

-- what is read and written, before and after
abbrev pub Streams : Type 1
Streams = Input → Input → Output → Output → Type 0

-- The session was held over a reader and a writer of these types: neither had failed, the reader had not been called,
-- and the writer kept nothing back.
pub record RanOverStreams {R W : Type 0} (input : R → Input) (output : W → Output) (holds : Streams) : Type 0 where
  pub reader : R
  pub reader' : R
  pub writer : W
  pub writer' : W
  pub unbroken : AreUnbroken (input reader) (output writer)
  pub uncalled : (input reader).calls ≡ 0
  pub kept : (output writer).kept ≡ []
  pub held : holds (input reader) (input reader') (output writer) (output writer')

-- a session of one client in this framing; the result reports how it ended
pub record ServesClient {D : Type 0} {g : Ghosts D} (f : Frames) (size : ℕ) (result : Result (Unit {0}) Fault)
    (old new : ServerState D g) (input input' : Input) (out out' : Output) : Type 0 where
  pub served : Served
  pub talked : IsStoreSession f input input' out out' size old new served
  pub memory : InMemory old.storage → HasTalkedInMemory f input input' out out' old.host new.host served
  pub told : result ≡ of_end served.why

-- a session of many clients; the result reports how it ended
pub record ServesManyClients {D : Type 0} {g : Ghosts D} (size : ℕ) (result : Result (Unit {0}) Fault)
    (old new : ServerState D g) (input input' : Input) (out out' : Output) : Type 0 where
  pub why : SessionEnd
  pub served : IsSharedSession input input' out out' size old new why
  pub told : result ≡ of_session_end why

-- the framing of `--hex`, and the one without it
abbrev pub framing_of : Bool → Frames
framing_of true = hex_lines
framing_of false = records

-- A session over these streams; or an allocation failed before anything was read, and the engine has not changed.
abbrev pub Holds : {R W E : Type 0} → (R → Input) → (W → Output) → (E → E → Streams) → Result (Unit {0}) Fault → E → E
    → Type 0
Holds input output serves result old new =
    RanOverStreams input output (serves old new) ⊎ ((result ≡ Err faults.Memory) × (new ≡ old))

-- ---- a command

-- a session from an engine with this property
pub record IsSessionFrom {E : Type 0} (beginning : E → Type 0) (session : E → E → Type 0) : Type 0 where
  pub old : E
  pub new : E
  pub begins : beginning old
  pub holds : session old new

-- It was held, or the command was refused with such a fault.
abbrev pub Commands : (Fault → Type 0) → Type 0 → Result (Unit {0}) Fault → Type 0
Commands refuses session (Ok u) = session
Commands refuses session (Err fault) = refuses fault ⊎ session

-- ---- over a library

-- the fault if there is no library to serve
abbrev pub IsOfNoLibrary : Fault → Type 0
IsOfNoLibrary fault = (fault ≡ faults.TwoInputs) ⊎ IsOfLibrary fault

-- a state in memory, of some library, with no objects
pub record BeginsInMemory {D : Type 0} {g : Ghosts D} (storage : Storage D g) (state : State) : Type 0 where
  pub memory : InMemory storage
  pub library : TreeValue
  pub text : List ℕ
  pub is : IsLibrary text library
  pub state_is : state ≡ record { bank = default_bank_bytes; library = library; table = first_table }

-- a session that `play` runs, with its faults of files
abbrev pub IsPlaySession : {D R W : Type 0} → Ghosts D → (R → Input) → (W → Output) → Bool → Result (Unit {0}) Fault
    → Type 0
IsPlaySession {D} g input output hex result =
    Commands IsOfNoLibrary (IsSessionFrom {E = ServerState D g} (λ e. BeginsInMemory e.storage e.host)
    (Holds input output (ServesClient (framing_of hex) 1 result) result)) result

-- a session that `play --shared` runs, with its faults of files
abbrev pub HasPlayedShared : {D R W : Type 0} → Ghosts D → (R → Input) → (W → Output) → Result (Unit {0}) Fault → Type 0
HasPlayedShared {D} g input output result =
    Commands IsOfNoLibrary (IsSessionFrom {E = ServerState D g} (λ e. BeginsInMemory e.storage e.host)
    (Holds input output (ServesManyClients 1 result) result)) result

-- ---- over a store

-- the nearest number of requests that a group can have
abbrev pub group_near : ℕ → ℕ
group_near size = max 1 (min size max_group)

-- the fault if there is no store of the library to serve
abbrev pub IsOfNoStore : Fault → Type 0
IsOfNoStore fault = IsOfLibrary fault ⊎ (IsOfTaking fault ⊎ ((refusal : OpenFault) × (fault ≡ of_open refusal)))

-- The store of a library was opened on a disk that is honest at its beginning, and the state is that of its table.
pub record OpensStore {D : Type 0} (g : Ghosts D) (storage : Storage D g) (state : State) : Type 0 where
  pub text : List ℕ
  pub is : IsLibrary text state.library
  pub disk : D
  pub begins : BeginsHonest g disk
  pub bank : state.bank ≡ bank_bytes_of storage
  pub over : OverStore storage (λ store. IsOpened g disk state.library store state.table)

-- a session that `serve` runs, with its faults of files
abbrev pub HasServed : {D R W : Type 0} → Ghosts D → (R → Input) → (W → Output) → Bool → ℕ → Result (Unit {0}) Fault
    → Type 0
HasServed {D} g input output hex size result =
    Commands (λ fault. (fault ≡ faults.TwoInputs) ⊎ IsOfNoStore fault) (IsSessionFrom {E = ServerState D g}
    (λ e. OpensStore g e.storage e.host)
    (Holds input output (ServesClient (framing_of hex) size result) result)) result

-- a session that `serve --shared` runs, with its faults of files
abbrev pub HasServedShared : {D R W : Type 0} → Ghosts D → (R → Input) → (W → Output) → ℕ → Result (Unit {0}) Fault
    → Type 0
HasServedShared {D} g input output size result =
    Commands (λ fault. (fault ≡ faults.TwoInputs) ⊎ IsOfNoStore fault) (IsSessionFrom {E = ServerState D g}
    (λ e. OpensStore g e.storage e.host)
    (Holds input output (ServesManyClients size result) result)) result
