-- The stretches of a session of many clients over a store are calls of it.
use Rattle.std.proofs.Common.{◌≡◌, ◌⊎◌, ◌≤◌, inl, inr, ℕ, ◌+◌, length, true, false, true≢false, IsTrue, List, [], ◌∷◌, ◌++◌, refl, sym, ap, ◌∙◌, subst, arith}
use Rattle.std.proofs.Common.{append_assoc}
use Rattle.std.proofs.lemmas.List.{append-nil}
use Rattle.oa_disk.specs.declared.disk.Disk.{Ghosts}
use Rattle.oa_group_commit.specs.promise.Groups.{IsServed, AnsweredCall, IsSessionOn, OpenSession}
use Rattle.oa_group_commit.specs.Sessions.{answered_by}
use Rattle.oa_group_commit.proofs.Calling.{chained, come_before, goes_on_moments, session_called, session_goes_on, session_late}
use Rattle.oa_group_commit.proofs.Entries.{either}
use Rattle.oa_record.specs.promise.Replacement.{is_replacement}
use Rattle.oa_store.specs.declared.store.Store.{Store}
use Rattle.oa_server.specs.SharedCalls.{IsCallsOf, SessionsAreCalls, StretchesCount, StretchesGoOn, stretch_calls}
use Rattle.oa_server.specs.promise.SharedMachine.{shared_machine, ClientReply, Shared, shared, ServesStretch, Stretch}
use Rattle.oa_server.specs.promise.SharedMachine.{all_told}
use Rattle.oa_server.specs.promise.SharedSessions.{asked_written}
use Rattle.oa_server.specs.Stretches.{AnswersStretches, ServesStretches}
use Rattle.oa_server.specs.declared.engine.ServerState.{ServerState}
use Rattle.oa_server.specs.declared.storage.Storage.TheVariants.{Disk}
use Rattle.oa_server.proofs.Parting.{BeginsWith, begins_more}
use Rattle.oa_server.proofs.AnsweredStretches.{stretches_served}
use Rattle.oa_mux.specs.promise.Marks.{Flush, Tagged}
use Rattle.oa_mux.specs.promise.Readers.{Brought}
use Rattle.oa_mux.specs.promise.Talking.{AllTurned, FailsToTell, TellsAll, ends_at, parted}

abbrev call_of : ℕ → Stretch → AnsweredCall ClientReply
call_of size stretch = record { size = size; bodies = stretch.bodies; replies = stretch.told }

module _ {D : Type 0} {g : Ghosts D} where
  -- where it has not stopped at the end, it had not before
  went_before : (size : ℕ) (old new : Store D g) (before after : Shared) (stretch : Stretch) → (old.stopped ≡ false) ⊎ (old.stopped ≡ true)
      → ServesStretch size old new before stretch after → new.stopped ≡ false → old.stopped ≡ false
  went_before size old new before after stretch (inl going) serves goes = going
  went_before size old new before after stretch (inr stopped) serves goes = absurd (true≢false (sym (serves.late stopped).stopped ∙ goes))

  pub goes_before : (size : ℕ) (old new : Store D g) (before after : Shared) (stretches : List Stretch) → ServesStretches size old new before stretches after
      → new.stopped ≡ false → old.stopped ≡ false
  goes_before size old new before after [] is going = ap (λ (s : Store D g). s.stopped) (sym is.0) ∙ going
  goes_before size old new before after (stretch ∷ stretches) is going =
      went_before size old is.0 before is.1 stretch (either old.stopped) is.2 (goes_before size is.0 new is.1 after stretches is.3 going)

  pub stretches_go_on : StretchesGoOn g
  stretches_go_on start mid new first last after calls size [] sits is going =
      subst (λ (s : Store D g). OpenSession shared_machine start s first after (calls ++ [])) (sym is.0)
      (subst (λ (s : Shared). OpenSession shared_machine start mid first s (calls ++ [])) (sym is.1)
      (subst (λ (l : List (AnsweredCall ClientReply)). OpenSession shared_machine start mid first last l) (sym (append-nil calls)) sits))
  stretches_go_on start mid new first last after calls size (stretch ∷ stretches) sits is going =
      let there = goes_before size is.0 new is.1 after stretches is.3 going in
      let here = went_before size mid is.0 last is.1 stretch (either mid.stopped) is.2 there in
      subst (λ (l : List (AnsweredCall ClientReply)). OpenSession shared_machine start new first after l)
      (append_assoc calls (call_of size stretch ∷ []) (stretch_calls size stretches))
      (stretches_go_on start is.0 new first is.1 after (calls ++ call_of size stretch ∷ []) size stretches
      (session_goes_on shared_machine {g = g} start mid is.0 first last is.1 calls (call_of size stretch) sits (is.2.served here) there) is.3 going)

  -- ---- where the device may fail in one of them
  -- so many calls of a session are over, and it goes on
  abbrev SessionStart : List ℕ → D → Store D g → Shared → Shared → List (AnsweredCall ClientReply) → Type 0
  SessionStart front start now first last calls = (was : OpenSession shared_machine start now first last calls) × BeginsWith front was.session.moments
      × (now.stopped ≡ false)

  -- or the device has failed in it
  abbrev IsOver : List ℕ → D → Store D g → Shared → Shared → List (AnsweredCall ClientReply) → Type 0
  IsOver front start now first last calls =
      (was : IsSessionOn shared_machine g start now.disk first calls last) × BeginsWith front was.moments × (was.stopped ≡ true) × (now.stopped ≡ true)

  -- one call more
  stretch_over : (front : List ℕ) (start : D) (mid new : Store D g) (first last after : Shared) (calls : List (AnsweredCall ClientReply)) (size : ℕ)
      (stretch : Stretch)
      → SessionStart front start mid first last calls ⊎ IsOver front start mid first last calls → ServesStretch size mid new last stretch after
      → SessionStart front start new first after (calls ++ call_of size stretch ∷ []) ⊎ IsOver front start new first after (calls ++ call_of size stretch ∷ [])
  stretch_over front start mid new first last after calls size stretch (inl sits) serves = by (either new.stopped)
    where
      is : IsServed shared_machine size mid new last after stretch.bodies stretch.told
      is = serves.served sits.2

      begins : BeginsWith front (session_called shared_machine {g = g} start mid new first last after calls (call_of size stretch) sits.0 is).moments
      begins =
          begins_more front sits.0.session.moments sits.1.0
          (chained shared_machine {g = g} start mid new first last after calls (call_of size stretch) sits.0 is).0 sits.1.1
          (chained shared_machine {g = g} start mid new first last after calls (call_of size stretch) sits.0 is).1

      by : (new.stopped ≡ false) ⊎ (new.stopped ≡ true) → SessionStart front start new first after (calls ++ call_of size stretch ∷ [])
          ⊎ IsOver front start new first after (calls ++ call_of size stretch ∷ [])
      by (inl going) = inl (
        session_goes_on shared_machine {g = g} start mid new first last after calls (call_of size stretch) sits.0 is going,
        subst (λ (l : List ℕ). BeginsWith front l)
            (sym (goes_on_moments shared_machine {g = g} start mid new first last after calls (call_of size stretch) sits.0 is going)) begins,
        going,
      )
      by (inr stopped) =
          inr (session_called shared_machine {g = g} start mid new first last after calls (call_of size stretch) sits.0 is, begins, stopped, stopped)
  stretch_over front start mid new first last after calls size stretch (inr over) serves =
      let late = serves.late over.3 in
      let more = session_late shared_machine g start mid.disk first last calls (call_of size stretch) over.0 over.2 late.told_is in
      let here : IsOver front start mid first last (calls ++ call_of size stretch ∷ []) = (more.0, (over.1.0, more.4 ∙ over.1.1), more.1, over.3) in
      inr (moved here late.disk late.state late.stopped)
    where
      moved : {calls : List (AnsweredCall ClientReply)} → IsOver front start mid first last calls → new.disk ≡ mid.disk → after ≡ last → new.stopped ≡ true
          → IsOver front start new first after calls
      moved {calls} is disk state stopped = go new.disk after (sym disk) (sym state)
        where
          go : (d : D) (s : Shared) → mid.disk ≡ d → last ≡ s → (was : IsSessionOn shared_machine g start d first calls s) × BeginsWith front was.moments
              × (was.stopped ≡ true) × (new.stopped ≡ true)
          go d s same_disk same_state =
              subst (λ (d : D). (was : IsSessionOn shared_machine g start d first calls s) × BeginsWith front was.moments × (was.stopped ≡ true)
              × (new.stopped ≡ true)) same_disk
              (subst (λ (s : Shared). (was : IsSessionOn shared_machine g start mid.disk first calls s) × BeginsWith front was.moments × (was.stopped ≡ true)
              × (new.stopped ≡ true)) same_state (is.0, is.1, is.2, stopped))

  stretches_over : (front : List ℕ) (start : D) (mid new : Store D g) (first last after : Shared) (calls : List (AnsweredCall ClientReply)) (size : ℕ)
      (stretches : List Stretch)
      → SessionStart front start mid first last calls ⊎ IsOver front start mid first last calls → ServesStretches size mid new last stretches after
      → SessionStart front start new first after (calls ++ stretch_calls size stretches) ⊎ IsOver front start new first after
      (calls ++ stretch_calls size stretches)
  stretches_over front start mid new first last after calls size [] so_far is =
      subst (λ (s : Store D g). SessionStart front start s first after (calls ++ []) ⊎ IsOver front start s first after (calls ++ [])) (sym is.0)
      (subst (λ (s : Shared). SessionStart front start mid first s (calls ++ []) ⊎ IsOver front start mid first s (calls ++ [])) (sym is.1)
      (subst (λ (l : List (AnsweredCall ClientReply)). SessionStart front start mid first last l ⊎ IsOver front start mid first last l)
      (sym (append-nil calls)) so_far))
  stretches_over front start mid new first last after calls size (stretch ∷ stretches) so_far is =
      subst (λ (l : List (AnsweredCall ClientReply)). SessionStart front start new first after l ⊎ IsOver front start new first after l)
      (append_assoc calls (call_of size stretch ∷ []) (stretch_calls size stretches))
      (stretches_over front start is.0 new first is.1 after (calls ++ call_of size stretch ∷ []) size stretches
      (stretch_over front start mid is.0 first last is.1 calls size stretch so_far is.2) is.3)

  pub stretches_count : StretchesCount g
  stretches_count start mid new first last after calls size stretches was going is =
      of (stretches_over was.session.moments start mid new first last after calls size stretches (inl (was, ([], sym (append-nil was.session.moments)), going))
      is)
    where
      counts : (moments : List ℕ) → BeginsWith was.session.moments moments → (m : ℕ) → g.moment mid.disk ≤ m → was.session.count ≤ answered_by m moments
      counts moments begins m le = come_before m was.session.count was.session.moments begins.0 moments begins.1 was.session.run.one_each
          (λ j k at. omega (arith, was.session.run.past j k at, le))

      of : SessionStart was.session.moments start new first after (calls ++ stretch_calls size stretches) ⊎ IsOver was.session.moments start new first after
          (calls ++ stretch_calls size stretches)
          → (session : IsSessionOn shared_machine g start new.disk first (calls ++ stretch_calls size stretches) after) × (session.stopped ≡ new.stopped)
          × ((m : ℕ) → g.moment mid.disk ≤ m → was.session.count ≤ answered_by m session.moments)
      of (inl sits) = (sits.0.session, sits.0.going ∙ sym sits.2, counts sits.0.session.moments sits.1)
      of (inr over) = (over.0, over.2 ∙ sym over.3, counts over.0.moments over.1)

-- ---- a whole session
module _ {D : Type 0} {g : Ghosts D} (only : (d : D) (c : List ℕ) → IsTrue (g.is_honest d) → g.image_since d (g.moment d) c → g.image d c) where
  -- what was asked and its ends, up to the last *now*
  served_to_the_end : (size : ℕ) (old new begun left : ServerState D g) (start : Store D g) (asks ends : List (Tagged Brought))
      (tolds : List (List (ℕ × List ℕ)))
      → begun.storage ≡ Disk start → begun.desk.open_group.size ≡ size → begun.desk.open_group.replies.items ≡ [] → begun.desk.open_group.batch ≡ []
      → shared begun.host begun.desk.owners ≡ shared old.host [] → new.storage ≡ left.storage
      → AllTurned asked_written begun (asks ++ (ends ++ Flush ∷ [])) tolds left
      → (end : Store D g) × (new.storage ≡ Disk end) × AnswersStretches size start end (shared old.host []) (asks ++ (ends ++ Flush ∷ [])) (all_told tolds)
      (shared left.host left.desk.owners)
  served_to_the_end size old new begun left start asks ends tolds is sized none empty state kept run =
      let same : (asks ++ ends) ++ Flush ∷ [] ≡ asks ++ (ends ++ Flush ∷ []) = append_assoc asks ends (Flush ∷ []) in
      let all = stretches_served {g = g} only begun left start (asks ++ ends) tolds is none empty
      (subst (λ (l : List (Tagged Brought)). AllTurned asked_written begun l tolds left) (sym same) run) in (
        all.0,
        kept ∙ all.1,
        subst (λ (n : ℕ). AnswersStretches n start all.0 (shared old.host []) (asks ++ (ends ++ Flush ∷ [])) (all_told tolds)
            (shared left.host left.desk.owners)) sized
            (subst (λ (s : Shared). AnswersStretches begun.desk.open_group.size start all.0 s (asks ++ (ends ++ Flush ∷ [])) (all_told tolds)
            (shared left.host left.desk.owners)) state
            (subst (λ (l : List (Tagged Brought)). AnswersStretches begun.desk.open_group.size start all.0 (shared begun.host begun.desk.owners) l
            (all_told tolds) (shared left.host left.desk.owners)) same all.2)),
      )

  pub sessions_are_calls : SessionsAreCalls g
  sessions_are_calls input input' out out' size old new start why is session = by session.serves.done
    where
      state : shared session.begun.host session.begun.desk.owners ≡ shared old.host []
      state = rw (session.host, session.owners) refl

      asks : List (Tagged Brought)
      asks = parted is_replacement session.serves.asked

      to_the_end : (ends : List (Tagged Brought)) (tolds : List (List (ℕ × List ℕ)))
          → AllTurned asked_written session.begun (asks ++ (ends ++ Flush ∷ [])) tolds session.left
          → (end : Store D g) × (new.storage ≡ Disk end) × AnswersStretches size start end (shared old.host []) (asks ++ (ends ++ Flush ∷ [])) (all_told tolds)
          (shared session.left.host session.left.desk.owners)
      to_the_end ends tolds run = served_to_the_end size old new session.begun session.left start asks ends tolds
          (session.storage ∙ is) session.size_is session.no_replies session.no_events state session.kept run

      by : TellsAll asked_written asks why session.serves.streams (session.serves.calls + length session.serves.taken) input' out out' session.begun
          session.left
          ⊎ FailsToTell asked_written asks why session.serves.streams.clients out out' session.begun session.left
          → (end : Store D g) × (new.storage ≡ Disk end) × IsCallsOf session.serves.asked session.serves.streams.clients why out out' size start end
          (shared old.host []) (shared new.host new.desk.owners)
      by (inl tells) =
          let ends = ends_at why session.serves.streams.clients in
          let all = to_the_end ends tells.told.tolds tells.told.run in (
            all.0,
            all.1,
            record {
              ends = ends;
              ends_are = inl refl;
              heard = tells.told.tolds;
              unheard = [];
              few = omega arith;
              last = shared session.left.host session.left.desk.owners;
              answers =
                  subst (λ (l : List (List (ℕ × List ℕ))). AnswersStretches size start all.0 (shared old.host []) (asks ++ (ends ++ Flush ∷ [])) (all_told l)
                  (shared session.left.host session.left.desk.owners)) (sym (append-nil tells.told.tolds)) all.2;
              written = inl (tells.told.written, refl);
              behind = session.behind;
            },
          )
      by (inr fails) =
          let all = to_the_end fails.ends (fails.loses.given ++ fails.loses.unheard) fails.loses.run in (
            all.0,
            all.1,
            record {
              ends = fails.ends;
              ends_are = inr (fails.ended, fails.others, fails.are);
              heard = fails.loses.given;
              unheard = fails.loses.unheard;
              few = fails.loses.one;
              last = shared session.left.host session.left.desk.owners;
              answers = all.2;
              written = inr fails.loses.torn;
              behind = session.behind;
            },
          )
