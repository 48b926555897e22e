-- What a session of many clients over streams in memory comes to.
use mathlib.Core.Path.{path_j, subst_refl}
use Rattle.std.proofs.Common.{◌≡◌, ◌⊎◌, inl, inr, ⊎_elim, ℕ, ◌+◌, length, List, [], ◌∷◌, ◌++◌, Bor, refl, sym, ◌∙◌, ap, subst, append_assoc}
use Rattle.oa_disk.specs.declared.disk.Disk.{Ghosts}
use Rattle.oa_disk.specs.declared.memory.MemoryDisk.{MemoryDisk}
use Rattle.oa_turn.specs.promise.ClientLocks.{ClientLock}
use Rattle.oa_record.specs.promise.Replacement.{is_replacement}
use Rattle.oa_stream.specs.BufferedSource.{ahead, read_ahead}
use Rattle.oa_stream.specs.promise.Memory.{gathered_output}
use Rattle.oa_stream.specs.promise.Sink.{Output}
use Rattle.oa_stream.specs.promise.Source.{Input as Read, in_memory}
use Rattle.oa_stream.specs.declared.ahead.BufferedSource.{BufferedSource}
use Rattle.oa_stream.specs.declared.gathered.VecSink.{VecSink}
use Rattle.oa_server.specs.promise.SharedSessions.{IsSharedSession, asked_written}
use Rattle.oa_server.specs.promise.SharedMachine.{ClientReply, Shared, shared}
use Rattle.oa_server.specs.promise.Storages.{OverStore}
use Rattle.oa_server.specs.declared.engine.ServerState.{ServerState}
use Rattle.oa_server.specs.declared.server.Server.{Server}
use Rattle.oa_server.specs.declared.storage.Storage.{Storage}
use Rattle.oa_server.specs.declared.storage.Storage.TheVariants.{Disk, Memory}
use Rattle.oa_mux.specs.promise.Marks.{Flush, Tagged}
use Rattle.oa_mux.specs.promise.Readers.{Brought}
use Rattle.oa_mux.specs.promise.Shared.{starting}
use Rattle.oa_mux.specs.promise.Talking.{AllTurned, FailsToTell, ServesClients, TellsAll, ends_at, parted}
use Rattle.oa_mux.specs.declared.session_end.SessionEnd.{SessionEnd}
use Rattle.oa_decision.specs.promise.States.{State}
use Rattle.oa_history.specs.promise.Framed.{AreTurnsOf, ServesShared, ends_of_turns, turns_asked, turns_ended}
use Rattle.oa_history.specs.promise.Framed.{turns_told}
use Rattle.oa_history.specs.Framed.{MakesCalls, TurnsAreCalls}
use Rattle.oa_history.specs.promise.DurablePrefixes.{CallSequence, CompletedCall}
use Rattle.oa_history.specs.declared.session.SharedInput.{SharedInput}
use Rattle.oa_history.proofs.Streams.{reads_from}

module _ {D : Type 0} {g : Ghosts D} {input input' : Read} {out out' : Output} {old new : ServerState D g} {why : SessionEnd}
    (is : ServesClients is_replacement asked_written starting input input' out out' old new why) where
  -- what was asked, and then ends of clients
  abbrev asked : List (Tagged Brought)
  asked = parted is_replacement is.asked ++ ⊎_elim (λ all. ends_at why is.streams.clients) (λ fails. fails.ends) is.done

  asked_are : turns_asked is ≡ asked ++ Flush ∷ []
  asked_are = sym (append_assoc (parted is_replacement is.asked) (⊎_elim (λ all. ends_at why is.streams.clients) (λ fails. fails.ends) is.done) (Flush ∷ []))

  abbrev pub IsDone : Type 0
  IsDone = TellsAll asked_written (parted is_replacement is.asked) why is.streams (is.calls + length is.taken) input' out out' old new
      ⊎ FailsToTell asked_written (parted is_replacement is.asked) why is.streams.clients out out' old new

  abbrev pub run_made : (done : IsDone)
      → AllTurned asked_written old (parted is_replacement is.asked
      ++ (⊎_elim (λ all. ends_at why is.streams.clients) (λ fails. fails.ends) done ++ Flush ∷ []))
      (⊎_elim (λ all. all.told.tolds) (λ fails. fails.loses.given ++ fails.loses.unheard) done) new
  run_made (inl all) = all.told.run
  run_made (inr fails) = fails.loses.run

  abbrev pub turns_made : AllTurned asked_written old (turns_asked is) (turns_told is) new
  turns_made = run_made is.done

  pub turns_ended_are : ends_of_turns old new (turns_asked is) (turns_told is) turns_made ≡ turns_ended is
  turns_ended_are = of is.done
    where
      of : (done : IsDone)
          → ends_of_turns old new (parted is_replacement is.asked ++ (⊎_elim (λ all. ends_at why is.streams.clients) (λ fails. fails.ends) done ++ Flush ∷ []))
          (⊎_elim (λ all. all.told.tolds) (λ fails. fails.loses.given ++ fails.loses.unheard) done) (run_made done)
          ≡ ⊎_elim (λ all. ends_of_turns old new (parted is_replacement is.asked ++ (ends_at why is.streams.clients ++ Flush ∷ [])) all.told.tolds all.told.run)
          (λ fails. ends_of_turns old new (parted is_replacement is.asked ++ (fails.ends ++ Flush ∷ []))
          (fails.loses.given ++ fails.loses.unheard) fails.loses.run) done
      of (inl all) = refl
      of (inr fails) = refl

-- the same turns, whatever equal list they are asked by
ends_same : {D : Type 0} {g : Ghosts D} (old new : ServerState D g) {asks asks' : List (Tagged Brought)} (e : asks ≡ asks') (tolds : List (List (ℕ × List ℕ)))
    (run : AllTurned asked_written old asks tolds new)
    → ends_of_turns old new asks' tolds (subst (λ (l : List (Tagged Brought)). AllTurned asked_written old l tolds new) e run)
    ≡ ends_of_turns old new asks tolds run
ends_same old new {asks = asks} e tolds run = path_j
    (λ l p. ends_of_turns old new l tolds (subst (λ (k : List (Tagged Brought)). AllTurned asked_written old k tolds new) p run)
    ≡ ends_of_turns old new asks tolds run)
    (ap (λ (r : AllTurned asked_written old asks tolds new). ends_of_turns old new asks tolds r)
    (subst_refl (λ (k : List (Tagged Brought)). AllTurned asked_written old k tolds new) run)) e

-- over a store the turns are calls
module _ {g : Ghosts MemoryDisk} (law : TurnsAreCalls g) (input unread : Read) (out out' : Output) (size : ℕ) (old new : ServerState MemoryDisk g)
    (why : SessionEnd) (served : IsSharedSession input unread out out' size old new why) where
  abbrev AreCalls : Type 0
  AreCalls = (calls : List (CompletedCall ClientReply)) × AreTurnsOf size calls (turns_asked served.serves) (turns_told served.serves)
      (turns_ended served.serves)
      × CallSequence ServesShared old.storage (shared old.host []) calls new.storage (shared served.left.host served.left.desk.owners)

  first_same : shared served.begun.host served.begun.desk.owners ≡ shared old.host []
  first_same = ap (λ (s : State). shared s served.begun.desk.owners) served.host ∙ ap (λ (l : List ClientLock). shared old.host l) served.owners

  calls_over : (storage : Storage MemoryDisk g) → old.storage ≡ storage → OverStore storage (λ store. Unit {0}) → AreCalls
  calls_over (Memory disk) is over = absurd over
  calls_over (Disk start) is over =
      let run = subst (λ (l : List (Tagged Brought)). AllTurned asked_written served.begun l (turns_told served.serves) served.left) (asked_are served.serves)
      (turns_made served.serves) in
      let ends = ends_of_turns served.begun served.left (asked served.serves ++ Flush ∷ []) (turns_told served.serves) run in
      let all = law served.begun served.left start (asked served.serves) (turns_told served.serves) (served.storage ∙ is) served.no_replies served.no_events
      run in (
        all.0,
        subst (λ (l : List ℕ). AreTurnsOf size all.0 (turns_asked served.serves) (turns_told served.serves) l)
            (ends_same served.begun served.left (asked_are served.serves) (turns_told served.serves) (turns_made served.serves) ∙ turns_ended_are served.serves)
            (subst (λ (l : List (Tagged Brought)). AreTurnsOf size all.0 l (turns_told served.serves) ends) (sym (asked_are served.serves))
            (subst (λ (n : ℕ). AreTurnsOf n all.0 (asked served.serves ++ Flush ∷ []) (turns_told served.serves) ends) served.size_is all.1)),
        subst (λ (s : Storage MemoryDisk g). CallSequence ServesShared old.storage (shared old.host []) all.0 s
            (shared served.left.host served.left.desk.owners)) (sym served.kept)
            (subst (λ (s : Storage MemoryDisk g). CallSequence ServesShared s (shared old.host []) all.0 served.left.storage
            (shared served.left.host served.left.desk.owners)) served.storage
            (subst (λ (s : Shared). CallSequence ServesShared served.begun.storage s all.0 served.left.storage
            (shared served.left.host served.left.desk.owners)) first_same all.2)),
      )

pub makes_calls : {g : Ghosts MemoryDisk} → TurnsAreCalls g → (input : SharedInput) (bytes : Bor (List ℕ)) (reader : BufferedSource (Bor (List ℕ)))
    (empty output : VecSink) (why : SessionEnd) (old new : Server MemoryDisk g) (unread : Read)
    → bytes.now ≡ input.bytes.items → reader.reader ≡ bytes → read_ahead reader ≡ [] → empty.bytes.items ≡ []
    → IsSharedSession (ahead (λ (s : Bor (List ℕ)). in_memory s.now) reader) unread (gathered_output empty)
    (gathered_output output) input.group old.engine new.engine why
    → MakesCalls input (record { output = output; why = why }) old new
makes_calls {g} law input bytes reader empty output why old new unread same at none nothing served over =
    let whole : ahead (λ (s : Bor (List ℕ)). in_memory s.now) reader ≡ in_memory input.bytes.items = reads_from bytes reader at none ∙ ap in_memory same in
    let here : IsSharedSession (in_memory input.bytes.items) unread (gathered_output empty) (gathered_output output) input.group old.engine new.engine why =
    subst (λ (i : Read). IsSharedSession i unread (gathered_output empty) (gathered_output output) input.group old.engine new.engine why) whole served in
    let calls = calls_over {g = g} law (in_memory input.bytes.items) unread (gathered_output empty) (gathered_output output) input.group old.engine new.engine
    why here old.engine.storage refl over in (
      calls.0,
      shared here.left.host here.left.desk.owners,
      record { empty = empty; nothing = nothing; unread = unread; new = new; served = here; are = calls.1; last_is = refl; end_is = refl },
      calls.2,
    )
