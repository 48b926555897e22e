-- The parts of a session over a store are calls of it.
use Rattle.std.proofs.Common.{◌≡◌, ◌⊎◌, ◌≤◌, inl, inr, ℕ, true, false, true≢false, List, [], ◌∷◌, ◌++◌, sym, ◌∙◌, subst, arith, append_assoc}
use Rattle.std.specs.Bool.{⊤}
use Rattle.std.proofs.lemmas.List.{append-nil}
use Rattle.oa_disk.specs.declared.disk.Disk.{Ghosts}
use Rattle.oa_group_commit.specs.promise.Groups.{IsServed, AnsweredCall, IsSessionOn, OpenSession}
use Rattle.oa_group_commit.specs.Sessions.{answered_by}
use Rattle.oa_group_commit.proofs.Calling.{chained, come_before, goes_on_moments, session_called, session_goes_on, session_late}
use Rattle.oa_group_commit.proofs.Entries.{either}
use Rattle.oa_record.specs.promise.Replies.{ReplyValue}
use Rattle.oa_store.specs.declared.store.Store.{Store}
use Rattle.oa_server.specs.declared.storage.Storage.{Storage}
use Rattle.oa_server.specs.declared.storage.Storage.TheVariants.{Disk, Memory}
use Rattle.oa_server.specs.Laws.{PartsCount, PartsGoOn}
use Rattle.oa_server.specs.promise.ServerMachine.{server_machine}
use Rattle.oa_decision.specs.promise.States.{State}
use Rattle.oa_server.specs.promise.Storages.{Serves, Part, Parts}
use Rattle.oa_server.specs.Talks.{calls_of}

-- the moments of a session begin with these
abbrev pub BeginsWith : List ℕ → List ℕ → Type 0
BeginsWith front moments = (more : List ℕ) × (moments ≡ front ++ more)

pub begins_more : (front mid more all : List ℕ) → mid ≡ front ++ more → (later : List ℕ) × (all ≡ mid ++ later) → BeginsWith front all
begins_more front mid more all begins is =
    (more ++ is.0, is.1 ∙ subst (λ (l : List ℕ). l ++ is.0 ≡ front ++ (more ++ is.0)) (sym begins) (append_assoc front more is.0))

abbrev call_of : ℕ → Part → AnsweredCall ReplyValue
call_of size part = record { size = size; bodies = part.bodies; replies = part.told }

module _ {D : Type 0} {g : Ghosts D} where
  same_store : (one two : Store D g) → Disk one ≡ Disk two → one ≡ two
  same_store one two is = cc

  abbrev IsGoing : Storage D g → Type 0
  IsGoing (Memory disk) = ⊤
  IsGoing (Disk store) = store.stopped ≡ false

  abbrev SitsAt : D → Storage D g → State → State → List (AnsweredCall ReplyValue) → Type 0
  SitsAt start (Memory disk) first last calls = ⊥
  SitsAt start (Disk store) first last calls = OpenSession server_machine start store first last calls

  went_before : (size : ℕ) (store : Store D g) (there : Storage D g) (before after : State) (part : Part) → (store.stopped ≡ false) ⊎ (store.stopped ≡ true)
      → Serves size (Disk store) there before part.bodies part.told after
      → IsGoing there → store.stopped ≡ false
  went_before size store (Disk new) before after part (inl going) serves goes = going
  went_before size store (Disk new) before after part (inr stopped) serves goes = absurd (true≢false (sym (serves.late stopped).stopped ∙ goes))
  went_before size store (Memory disk) before after part either serves goes = absurd serves

  -- where it has not stopped at the end, it had not before
  goes_before : (size : ℕ) (there : Storage D g) (new : Store D g) (state after : State) (parts : List Part) → Parts size there (Disk new) state parts after
      → new.stopped ≡ false → IsGoing there
  goes_before size (Memory disk) new state after parts is going = tt
  goes_before size (Disk store) new state after [] is going = subst (λ (s : Store D g). s.stopped ≡ false) (same_store new store is.0) going
  goes_before size (Disk store) new state after (part ∷ parts) is going =
      went_before size store is.0 state is.1 part (either store.stopped) is.2.serves (goes_before size is.0 new is.1 after parts is.3 going)

  one_more : (start : D) (mid : Store D g) (there : Storage D g) (first last after : State) (calls : List (AnsweredCall ReplyValue)) (size : ℕ) (part : Part)
      → OpenSession server_machine start mid first last calls
      → Serves size (Disk mid) there last part.bodies part.told after → mid.stopped ≡ false → IsGoing there
      → SitsAt start there first after (calls ++ record { size = size; bodies = part.bodies; replies = part.told } ∷ [])
  one_more start mid (Memory disk) first last after calls size part sits serves was going = absurd serves
  one_more start mid (Disk new) first last after calls size part sits serves was going =
      session_goes_on server_machine {g = g} start mid new first last after calls (record { size = size; bodies = part.bodies; replies = part.told }) sits
      (serves.served was) going

  parts_at : (start : D) (there : Storage D g) (new : Store D g) (first last after : State) (calls : List (AnsweredCall ReplyValue)) (size : ℕ)
      (parts : List Part) → SitsAt start there first last calls
      → Parts size there (Disk new) last parts after → new.stopped ≡ false → OpenSession server_machine start new first after (calls ++ calls_of size parts)
  parts_at start (Memory disk) new first last after calls size parts sits is going = absurd sits
  parts_at start (Disk mid) new first last after calls size [] sits is going =
      subst (λ (s : Store D g). OpenSession server_machine start s first after (calls ++ [])) (sym (same_store new mid is.0))
      (subst (λ (s : State). OpenSession server_machine start mid first s (calls ++ [])) (sym is.1)
      (subst (λ (l : List (AnsweredCall ReplyValue)). OpenSession server_machine start mid first last l) (sym (append-nil calls)) sits))
  parts_at start (Disk mid) new first last after calls size (part ∷ parts) sits is going =
      let call : AnsweredCall ReplyValue = record { size = size; bodies = part.bodies; replies = part.told } in
      let there = goes_before size is.0 new is.1 after parts is.3 going in
      let here = went_before size mid is.0 last is.1 part (either mid.stopped) is.2.serves there in
      subst (λ (l : List (AnsweredCall ReplyValue)). OpenSession server_machine start new first after l) (append_assoc calls (call ∷ []) (calls_of size parts))
      (parts_at start is.0 new first is.1 after (calls ++ call ∷ []) size parts
      (one_more start mid is.0 first last is.1 calls size part sits is.2.serves here there) is.3 going)

  pub parts_go_on : PartsGoOn g
  parts_go_on start mid new first last after calls size parts sits is going = parts_at start (Disk mid) new first last after calls size parts sits is going

  -- ---- where the device may fail in one of them
  -- so many calls of a session are over, and it goes on
  abbrev SessionStart : List ℕ → D → Store D g → State → State → List (AnsweredCall ReplyValue) → Type 0
  SessionStart front start now first last calls = (was : OpenSession server_machine start now first last calls) × BeginsWith front was.session.moments
      × (now.stopped ≡ false)

  -- or the device has failed in it
  abbrev IsOver : List ℕ → D → Store D g → State → State → List (AnsweredCall ReplyValue) → Type 0
  IsOver front start now first last calls =
      (was : IsSessionOn server_machine g start now.disk first calls last) × BeginsWith front was.moments × (was.stopped ≡ true) × (now.stopped ≡ true)

  abbrev SitsOrOver : List ℕ → D → Storage D g → State → State → List (AnsweredCall ReplyValue) → Type 0
  SitsOrOver front start (Memory disk) first last calls = ⊥
  SitsOrOver front start (Disk now) first last calls = SessionStart front start now first last calls ⊎ IsOver front start now first last calls

  -- one part more
  part_over : (front : List ℕ) (start : D) (mid : Store D g) (there : Storage D g) (first last after : State) (calls : List (AnsweredCall ReplyValue))
      (size : ℕ) (part : Part)
      → SessionStart front start mid first last calls ⊎ IsOver front start mid first last calls → Serves size (Disk mid) there last part.bodies part.told after
      → SitsOrOver front start there first after (calls ++ call_of size part ∷ [])
  part_over front start mid (Memory disk) first last after calls size part so_far serves = absurd serves
  part_over front start mid (Disk new) first last after calls size part (inl sits) serves = by (either new.stopped)
    where
      is : IsServed server_machine size mid new last after part.bodies part.told
      is = serves.served sits.2

      begins : BeginsWith front (session_called server_machine {g = g} start mid new first last after calls (call_of size part) sits.0 is).moments
      begins =
          begins_more front sits.0.session.moments sits.1.0
          (chained server_machine {g = g} start mid new first last after calls (call_of size part) sits.0 is).0 sits.1.1
          (chained server_machine {g = g} start mid new first last after calls (call_of size part) sits.0 is).1

      by : (new.stopped ≡ false) ⊎ (new.stopped ≡ true) → SitsOrOver front start (Disk new) first after (calls ++ call_of size part ∷ [])
      by (inl going) = inl (
        session_goes_on server_machine {g = g} start mid new first last after calls (call_of size part) sits.0 is going,
        subst (λ (l : List ℕ). BeginsWith front l)
            (sym (goes_on_moments server_machine {g = g} start mid new first last after calls (call_of size part) sits.0 is going)) begins,
        going,
      )
      by (inr stopped) =
          inr (session_called server_machine {g = g} start mid new first last after calls (call_of size part) sits.0 is, begins, stopped, stopped)
  part_over front start mid (Disk new) first last after calls size part (inr over) serves =
      let late = serves.late over.3 in
      let more = session_late server_machine g start mid.disk first last calls (call_of size part) over.0 over.2 late.told in
      let here : IsOver front start mid first last (calls ++ call_of size part ∷ []) = (more.0, (over.1.0, more.4 ∙ over.1.1), more.1, over.3) in
      inr (moved here late.disk late.state late.stopped)
    where
      moved : {calls : List (AnsweredCall ReplyValue)} → IsOver front start mid first last calls → new.disk ≡ mid.disk → after ≡ last → new.stopped ≡ true
          → IsOver front start new first after calls
      moved {calls} is disk state stopped = go new.disk after (sym disk) (sym state)
        where
          go : (d : D) (s : State) → mid.disk ≡ d → last ≡ s → (was : IsSessionOn server_machine g start d first calls s) × BeginsWith front was.moments
              × (was.stopped ≡ true) × (new.stopped ≡ true)
          go d s same_disk same_state =
              subst (λ (d : D). (was : IsSessionOn server_machine g start d first calls s) × BeginsWith front was.moments × (was.stopped ≡ true)
              × (new.stopped ≡ true)) same_disk
              (subst (λ (s : State). (was : IsSessionOn server_machine g start mid.disk first calls s) × BeginsWith front was.moments × (was.stopped ≡ true)
              × (new.stopped ≡ true)) same_state (is.0, is.1, is.2, stopped))

  parts_over : (front : List ℕ) (start : D) (there : Storage D g) (new : Store D g) (first last after : State) (calls : List (AnsweredCall ReplyValue))
      (size : ℕ) (parts : List Part) → SitsOrOver front start there first last calls
      → Parts size there (Disk new) last parts after → SitsOrOver front start (Disk new) first after (calls ++ calls_of size parts)
  parts_over front start there new first last after calls size [] so_far is =
      subst (λ (s : Storage D g). SitsOrOver front start s first after (calls ++ [])) (sym is.0)
      (subst (λ (s : State). SitsOrOver front start there first s (calls ++ [])) (sym is.1)
      (subst (λ (l : List (AnsweredCall ReplyValue)). SitsOrOver front start there first last l) (sym (append-nil calls)) so_far))
  parts_over front start (Memory disk) new first last after calls size (part ∷ parts) so_far is = absurd so_far
  parts_over front start (Disk mid) new first last after calls size (part ∷ parts) so_far is =
      subst (λ (l : List (AnsweredCall ReplyValue)). SitsOrOver front start (Disk new) first after l)
      (append_assoc calls (call_of size part ∷ []) (calls_of size parts))
      (parts_over front start is.0 new first is.1 after (calls ++ call_of size part ∷ []) size parts
      (part_over front start mid is.0 first last is.1 calls size part so_far is.2.serves) is.3)

  pub parts_count : PartsCount g
  parts_count start mid new first last after calls size parts was going is =
      of (parts_over was.session.moments start (Disk mid) new first last after calls size parts (inl (was, ([], sym (append-nil was.session.moments)), going))
      is)
    where
      counts : (moments : List ℕ) → BeginsWith was.session.moments moments → (m : ℕ) → g.moment mid.disk ≤ m → was.session.count ≤ answered_by m moments
      counts moments begins m le = come_before m was.session.count was.session.moments begins.0 moments begins.1 was.session.run.one_each
          (λ j k at. omega (arith, was.session.run.past j k at, le))

      of : SitsOrOver was.session.moments start (Disk new) first after (calls ++ calls_of size parts)
          → (session : IsSessionOn server_machine g start new.disk first (calls ++ calls_of size parts) after) × (session.stopped ≡ new.stopped)
          × ((m : ℕ) → g.moment mid.disk ≤ m → was.session.count ≤ answered_by m session.moments)
      of (inl sits) = (sits.0.session, sits.0.going ∙ sym sits.2, counts sits.0.session.moments sits.1)
      of (inr over) = (over.0, over.2 ∙ sym over.3, counts over.0.moments over.1)
