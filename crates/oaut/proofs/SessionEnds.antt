-- What a session comes to in the program, whatever it answers.
use Rattle.std.proofs.Common.{◌≡◌, inr, List, [], ℕ, Result, Ok, Err}
use Rattle.oa_sema.specs.promise.IsLibrary.{IsLibrary}
use Rattle.oa_commands.specs.Statuses.{of_end, of_session_end}
use Rattle.oa_commands.specs.declared.fault.Fault.{Fault}
use Rattle.oa_decision.specs.promise.States.{State}
use Rattle.oa_disk.specs.After.{BeginsHonest}
use Rattle.oa_disk.specs.declared.disk.Disk.{Ghosts}
use Rattle.oa_frame.specs.Beginnings.{AreUnbroken}
use Rattle.oa_frame.specs.promise.Framings.{Frames}
use Rattle.oa_frame.specs.declared.session.Served.{Served}
use Rattle.oa_idl.specs.promise.Trees.{TreeValue}
use Rattle.oa_server.specs.promise.ServerMachine.{IsOpened}
use Rattle.oa_server.specs.promise.SharedSessions.{IsSharedSession}
use Rattle.oa_server.specs.Storages.{InMemory, bank_bytes_of}
use Rattle.oa_server.specs.promise.Storages.{OverStore}
use Rattle.oa_server.specs.Talks.{HasTalkedInMemory, IsStoreSession}
use Rattle.oa_server.specs.declared.engine.ServerState.{ServerState}
use Rattle.oa_server.specs.declared.storage.Storage.{Storage}
use Rattle.oa_mux.specs.declared.session_end.SessionEnd.{SessionEnd}
use Rattle.oa_stream.specs.promise.Sink.{Output}
use Rattle.oa_stream.specs.promise.Source.{Input}
use Rattle.oaut.specs.Sessions.{Commands, OpensStore, RanOverStreams, ServesClient, ServesManyClients, Streams}

pub over : {R W : Type 0} (input : R → Input) (output : W → Output) (holds : Streams) (reader reader' : R) (writer writer' : W)
    → AreUnbroken (input reader) (output writer) → (input reader).calls ≡ 0 → (output writer).kept ≡ []
    → holds (input reader) (input reader') (output writer) (output writer') → RanOverStreams input output holds
over input output holds reader reader' writer writer' unbroken uncalled kept held = record {
  reader = reader;
  reader' = reader';
  writer = writer;
  writer' = writer';
  unbroken = unbroken;
  uncalled = uncalled;
  kept = kept;
  held = held;
}

pub client : {D : Type 0} {g : Ghosts D} (f : Frames) (size : ℕ) (result : Result (Unit {0}) Fault) (old new : ServerState D g) (served : Served)
    (input input' : Input) (out out' : Output) → IsStoreSession f input input' out out' size old new served
    → (InMemory old.storage → HasTalkedInMemory f input input' out out' old.host new.host served) → result ≡ of_end served.why
    → ServesClient f size result old new input input' out out'
client f size result old new served input input' out out' talked memory told =
    record { served = served; talked = talked; memory = memory; told = told }

pub clients : {D : Type 0} {g : Ghosts D} (size : ℕ) (result : Result (Unit {0}) Fault) (old new : ServerState D g) (why : SessionEnd)
    (input input' : Input) (out out' : Output) → IsSharedSession input input' out out' size old new why → result ≡ of_session_end why
    → ServesManyClients size result old new input input' out out'
clients size result old new why input input' out out' served told = record { why = why; served = served; told = told }

pub answers : (refuses : Fault → Type 0) (session : Type 0) (result : Result (Unit {0}) Fault) → session → Commands refuses session result
answers refuses session (Ok u) held = held
answers refuses session (Err fault) held = inr held

pub opens : {D : Type 0} (g : Ghosts D) (storage : Storage D g) (state : State) (library : TreeValue) (text : List ℕ) (disk : D)
    → IsLibrary text library → BeginsHonest g disk → state.library ≡ library → state.bank ≡ bank_bytes_of storage
    → OverStore storage (λ store. IsOpened g disk library store state.table) → OpensStore g storage state
opens g storage state library text disk is begins same bank over = record {
  text = text;
  is = rw same is;
  disk = disk;
  begins = begins;
  bank = bank;
  over = rw same over;
}
