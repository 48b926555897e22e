-- The turns of many clients over a store are calls, one after another.
use Rattle.std.proofs.Common.{◌≡◌, ◌⊎◌, inl, inr, ⊎_elim, ℕ, ◌+◌, IsTrue, true, false, true≢false, List, [], ◌∷◌, ◌++◌, length, map, refl, sym, ap, ◌∙◌}
use Rattle.std.proofs.Common.{subst, append_assoc, length-append}
use Rattle.std.proofs.lemmas.List.{append-nil}
use Rattle.oa_disk.specs.declared.disk.Disk.{Ghosts}
use Rattle.oa_group_commit.specs.Invariants.{GroupInvariant}
use Rattle.oa_group_commit.specs.promise.Groups.{GroupState, IsAdmitted, IsApart, IsEnded, IsServed}
use Rattle.oa_group_commit.proofs.Ends.{underway_ended}
use Rattle.oa_group_commit.proofs.Entries.{either}
use Rattle.oa_group_commit.proofs.Stores.{goes_nowhere}
use Rattle.oa_group_commit.proofs.Takes.{underway_start, underway_taken}
use Rattle.oa_record.specs.promise.Replies.{ReplyValue}
use Rattle.oa_store.specs.declared.store.Store.{Store}
use Rattle.oa_server.specs.promise.SharedSessions.{all_frames, shared_group_state_of, told_to, AsksIn, asked_written}
use Rattle.oa_server.specs.promise.SharedMachine.{shared_machine, ClientReply, Shared, failed_client_reply, shared}
use Rattle.oa_server.specs.promise.SharedMachine.{tagged_body, IsLateFor, ServesStretch}
use Rattle.oa_server.specs.promise.Storages.{disk_of}
use Rattle.oa_server.specs.declared.desk.ReplyTo.{ReplyTo}
use Rattle.oa_server.specs.declared.desk.SharedGroup.{SharedGroup}
use Rattle.oa_server.specs.declared.engine.ServerState.{ServerState}
use Rattle.oa_server.specs.declared.storage.Storage.{Storage}
use Rattle.oa_server.specs.declared.storage.Storage.TheVariants.{Disk, Memory}
use Rattle.oa_mux.specs.promise.Marks.{Tagged, Of, Flush}
use Rattle.oa_mux.specs.promise.Readers.{Brought}
use Rattle.oa_mux.specs.promise.Talking.{AllTurned}
use Rattle.oa_decision.specs.promise.States.{State}
use Rattle.oa_history.specs.promise.Framed.{AreTurnsOf, ServesShared, at_last_turn, ends_of_turns, requests_in}
use Rattle.oa_history.specs.Framed.{TurnsAreCalls}
use Rattle.oa_history.specs.promise.DurablePrefixes.{CallSequence, CompletedCall}

no_frames : all_frames [] ≡ []
unfolding all_frames
no_frames = refl

pub told_none : (askers : List ReplyTo) → told_to askers [] ≡ []
told_none [] = refl
told_none (asker ∷ askers) = refl

-- at each turn nothing
abbrev silent : List (Tagged Brought) → List (List (ℕ × List ℕ))
silent [] = []
silent (ask ∷ asks) = [] ∷ silent asks

silent_more : (own : List (Tagged Brought)) (ask : Tagged Brought) (tolds : List (List (ℕ × List ℕ)))
    → silent (own ++ ask ∷ []) ++ tolds ≡ silent own ++ [] ∷ tolds
silent_more [] ask tolds = refl
silent_more (x ∷ own) ask tolds = ap (λ (l : List (List (ℕ × List ℕ))). [] ∷ l) (silent_more own ask tolds)

last_turn : (own : List (Tagged Brought)) (ask : Tagged Brought) (frames : List (ℕ × List ℕ)) (tolds : List (List (ℕ × List ℕ)))
    → silent own ++ frames ∷ tolds ≡ at_last_turn (own ++ ask ∷ []) frames ++ tolds
last_turn [] ask frames tolds = refl
last_turn (x ∷ []) ask frames tolds = refl
last_turn (x ∷ (y ∷ own)) ask frames tolds = ap (λ (l : List (List (ℕ × List ℕ))). [] ∷ l) (last_turn (y ∷ own) ask frames tolds)

pub requests_more : (own : List (Tagged Brought)) (client : ℕ) (brought : Brought) → requests_in (own ++ Of client brought ∷ []) ≡ requests_in own
    ++ tagged_body client brought ∷ []
requests_more [] client brought = refl
requests_more (Of other x ∷ own) client brought = ap (λ (l : List (List ℕ)). tagged_body other x ∷ l) (requests_more own client brought)
requests_more (Flush ∷ own) client brought = requests_more own client brought

pub requests_same : (own : List (Tagged Brought)) → requests_in (own ++ Flush ∷ []) ≡ requests_in own
requests_same [] = refl
requests_same (Of other x ∷ own) = ap (λ (l : List (List ℕ)). tagged_body other x ∷ l) (requests_same own)
requests_same (Flush ∷ own) = requests_same own

one_more : (own : List (Tagged Brought)) (ask : Tagged Brought) (gone : List ℕ) (at : ℕ) → length own ≡ length gone
    → length (own ++ ask ∷ []) ≡ length (gone ++ at ∷ [])
one_more own ask gone at each = length-append own (ask ∷ []) ∙ ap (λ (n : ℕ). n + 1) each ∙ sym (length-append gone (at ∷ []))

module _ {D : Type 0} {g : Ghosts D} (only : (d : D) (c : List ℕ) → IsTrue (g.is_honest d) → g.image_since d (g.moment d) c → g.image d c) (size : ℕ) where
  abbrev pub at_start : Store D g → Shared → GroupState Shared ClientReply D g
  at_start store state = record { store = store; state = state; pending = []; events = [] }

  -- the device had failed, and nothing was taken since
  pub record IsLate (start : Store D g) (first : Shared) (now : GroupState Shared ClientReply D g) (front : List (List ℕ)) : Type 0 where
    pub none : front ≡ []
    pub state : now.state ≡ first
    pub disk : now.store.disk ≡ start.disk
    pub stopped : now.store.stopped ≡ true

  -- these requests were taken since the last call, and nothing was told of them
  pub record SoFar (start : Store D g) (first : Shared) (now : GroupState Shared ClientReply D g) (front : List (List ℕ)) : Type 0 where
    pub going : start.stopped ≡ false → GroupInvariant shared_machine size (at_start start first) now front []
    pub late : start.stopped ≡ true → IsLate start first now front

  -- a call may begin
  pub begins : (now : GroupState Shared ClientReply D g) → (now.store.stopped ≡ false → (now.pending ≡ []) × (now.events ≡ []))
      → SoFar now.store now.state now []
  begins now idle = record {
    going = λ going. subst (λ (n : GroupState Shared ClientReply D g). GroupInvariant shared_machine size (at_start now.store now.state) n [] [])
        (same (idle going).0 (idle going).1)
        (underway_start shared_machine {g = g} only (at_start now.store now.state) size going refl refl);
    late = λ stopped. record { none = refl; state = refl; disk = refl; stopped = stopped };
  }
    where
      at : List ClientReply → List ℕ → GroupState Shared ClientReply D g
      at pending events = record { store = now.store; state = now.state; pending = pending; events = events }

      same : now.pending ≡ [] → now.events ≡ [] → at_start now.store now.state ≡ now
      same p e = ap (λ (l : List ClientReply). at l []) (sym p) ∙ ap (λ (l : List ℕ). at now.pending l) (sym e)

  -- a call is over
  abbrev IsCall : Store D g → Shared → GroupState Shared ClientReply D g → List (List ℕ) → List ClientReply → Type 0
  IsCall start first new bodies told = ServesStretch size start new.store first (record { bodies = bodies; told = told }) new.state
      × SoFar new.store new.state new []

  -- where nothing is held, no group is to be ended
  ended : (now : GroupState Shared ClientReply D g) → (now.store.stopped ≡ false → (now.pending ≡ []) × (now.events ≡ [])) → IsEnded shared_machine [] now now
  ended now idle = by (either now.store.stopped)
    where
      by : (now.store.stopped ≡ false) ⊎ (now.store.stopped ≡ true) → IsEnded shared_machine [] now now
      by (inl going) = inl (record { none = (idle going).0; nothing = refl; store = refl; state = refl })
      by (inr stopped) =
          inr (inr (record { over = record { was = stopped; is = stopped; disk = refl; state = refl; goes = goes_nowhere now.store }; nothing = refl }))

  module _ (start : Store D g) (first : Shared) (old new : GroupState Shared ClientReply D g) (front : List (List ℕ))
      (so_far : SoFar start first old front) where
    module _ (body : List ℕ) (told : List ClientReply) where
      over : IsAdmitted shared_machine size body told old new → (new.store.stopped ≡ false → (new.pending ≡ []) × (new.events ≡ []))
          → (start.stopped ≡ true → IsLateFor start new.store first new.state (front ++ body ∷ []) told) → IsCall start first new (front ++ body ∷ []) told
      over is idle late = (
        record {
          served = λ going. subst (λ (l : List ClientReply). IsServed shared_machine size start new.store first new.state (front ++ body ∷ []) l)
              (append-nil told)
              (underway_ended shared_machine {g = g} only (at_start start first) size new new (front ++ body ∷ []) told []
              (underway_taken shared_machine {g = g} only (at_start start first) size old new front [] body told (so_far.going going) is) (ended new idle));
          late = late;
        },
        begins new idle,
      )

      apart_idle : IsApart shared_machine body told old new → new.store.stopped ≡ false → (new.pending ≡ []) × (new.events ≡ [])
      apart_idle apart going = by (either apart.mid.store.stopped)
        where
          by : (apart.mid.store.stopped ≡ false) ⊎ (apart.mid.store.stopped ≡ true) → (new.pending ≡ []) × (new.events ≡ [])
          by (inl on) = (apart.going on).1.idle_still
          by (inr off) = absurd (true≢false (sym (apart.late off).1.is ∙ going))

      -- a request is taken: it is held, or a call is over
      taken : IsAdmitted shared_machine size body told old new → ((told ≡ []) × SoFar start first new (front ++ body ∷ [])) ⊎ IsCall start first new
          (front ++ body ∷ []) told
      taken (inl held) = inl (
        held.nothing,
        record {
          going = λ going. subst (λ (l : List ClientReply). GroupInvariant shared_machine size (at_start start first) new (front ++ body ∷ []) l) held.nothing
              (underway_taken shared_machine {g = g} only (at_start start first) size old new front [] body told (so_far.going going) (inl held));
          late = λ stopped. absurd (true≢false (sym (so_far.late stopped).stopped ∙ held.was));
        },
      )
      taken (inr (inl filled)) =
          inr (over (inr (inl filled)) (λ going. let due = filled.settled.well going in (due.1, due.2))
          (λ stopped. absurd (true≢false (sym (so_far.late stopped).stopped ∙ filled.was))))
      taken (inr (inr (inl faulted))) = inr (over (inr (inr (inl faulted))) (λ going. absurd (true≢false (sym faulted.failed.stopped ∙ going)))
          (λ stopped. absurd (true≢false (sym (so_far.late stopped).stopped ∙ faulted.was))))
      taken (inr (inr (inr (inr apart)))) =
          inr (over (inr (inr (inr (inr apart)))) (apart_idle apart) (λ stopped. absurd (true≢false (sym (so_far.late stopped).stopped ∙ apart.was))))
      taken (inr (inr (inr (inl too_late)))) = inr (over (inr (inr (inr (inl too_late)))) (λ going. absurd (true≢false (sym too_late.over.is ∙ going)))
          (λ stopped. let late = so_far.late stopped in record {
            told_is = too_late.told_is ∙ ap (λ (l : List (List ℕ)). map failed_client_reply (l ++ body ∷ [])) (sym late.none);
            state = too_late.over.state ∙ late.state;
            disk = too_late.over.disk ∙ late.disk;
            stopped = too_late.over.is;
          }))

    -- *now*
    ends : (told : List ClientReply) → IsEnded shared_machine told old new → (new.pending ≡ []) × (new.events ≡ []) → IsCall start first new front told
    ends told is idle = (
      record {
        served = λ going. underway_ended shared_machine {g = g} only (at_start start first) size old new front [] told (so_far.going going) is;
        late = λ stopped. by (so_far.late stopped) is;
      },
      begins new (λ going. idle),
    )
      where
        by : IsLate start first old front → IsEnded shared_machine told old new → IsLateFor start new.store first new.state front told
        by late (inl idle) = record {
          told_is = idle.nothing ∙ ap (λ (l : List (List ℕ)). map failed_client_reply l) (sym late.none);
          state = idle.state ∙ late.state;
          disk = ap (λ (s : Store D g). s.disk) idle.store ∙ late.disk;
          stopped = ap (λ (s : Store D g). s.stopped) idle.store ∙ late.stopped;
        }
        by late (inr (inl last)) = absurd (true≢false (sym late.stopped ∙ last.was))
        by late (inr (inr left)) = record {
          told_is = left.nothing ∙ ap (λ (l : List (List ℕ)). map failed_client_reply l) (sym late.none);
          state = left.over.state ∙ late.state;
          disk = left.over.disk ∙ late.disk;
          stopped = left.over.is;
        }

  -- ---- the turns of the engine
  abbrev pub SoFarIn : Store D g → Shared → Storage D g → State → SharedGroup → List (List ℕ) → Type 0
  SoFarIn start first (Memory disk) state desk front = ⊥
  SoFarIn start first (Disk store) state desk front = (desk.open_group.size ≡ size) × SoFar start first (shared_group_state_of store state desk) front

  -- a call is over with this turn, and the next one may begin
  pub record CallIn (start : Store D g) (first : Shared) (own : List (Tagged Brought)) (frames : List (ℕ × List ℕ)) (new : Storage D g) (after : State)
      (desk : SharedGroup) : Type 0 where
    pub told : List ClientReply
    pub are : frames ≡ all_frames told
    pub mid : Store D g
    pub mid_is : new ≡ Disk mid
    pub serves : ServesStretch size start mid first (record { bodies = requests_in own; told = told }) (shared after desk.owners)
    pub next : SoFarIn mid (shared after desk.owners) new after desk (requests_in [])

  abbrev pub TurnIn : Store D g → Shared → List (Tagged Brought) → List (ℕ × List ℕ) → Storage D g → State → SharedGroup → Type 0
  TurnIn start first own frames new after desk = ((frames ≡ []) × SoFarIn start first new after desk (requests_in own))
      ⊎ CallIn start first own frames new after desk

  -- a client's body or its end
  pub turned : (start : Store D g) (first : Shared) (old new : Storage D g) (before after : State) (desk desk' : SharedGroup) (own : List (Tagged Brought))
      (client : ℕ) (brought : Brought) (frames : List (ℕ × List ℕ))
      → SoFarIn start first old before desk (requests_in own) → AsksIn old before desk (Of client brought) frames new after desk'
      → TurnIn start first (own ++ Of client brought ∷ []) frames new after desk'
  turned start first (Memory old) new before after desk desk' own client brought frames was is = absurd was
  turned start first (Disk old) (Memory new) before after desk desk' own client brought frames was is = absurd is
  turned start first (Disk old) (Disk new) before after desk desk' own client brought frames was is =
      by (taken start first (shared_group_state_of old before desk) (shared_group_state_of new after desk') (requests_in own) was.1
      (tagged_body client brought) is.told
      (subst (λ (n : ℕ). IsAdmitted shared_machine n (tagged_body client brought) is.told (shared_group_state_of old before desk)
      (shared_group_state_of new after desk')) was.0 is.taken))
    where
      by : ((is.told ≡ []) × SoFar start first (shared_group_state_of new after desk') (requests_in own ++ tagged_body client brought ∷ []))
          ⊎ IsCall start first (shared_group_state_of new after desk') (requests_in own ++ tagged_body client brought ∷ []) is.told
          → TurnIn start first (own ++ Of client brought ∷ []) frames (Disk new) after desk'
      by (inl held) = inl (
        is.are ∙ ap all_frames held.0 ∙ no_frames,
        (
          is.size ∙ was.0,
          subst (λ (l : List (List ℕ)). SoFar start first (shared_group_state_of new after desk') l)
              (sym (requests_more own client brought)) held.1,
        ),
      )
      by (inr call) = inr (record {
        told = is.told;
        are = is.are;
        mid = new;
        mid_is = refl;
        serves = subst (λ (l : List (List ℕ)). ServesStretch size start new first (record { bodies = l; told = is.told }) (shared after desk'.owners))
            (sym (requests_more own client brought)) call.0;
        next = (is.size ∙ was.0, call.1);
      })

  -- *now*
  pub turned_now : (start : Store D g) (first : Shared) (old new : Storage D g) (before after : State) (desk desk' : SharedGroup) (own : List (Tagged Brought))
      (frames : List (ℕ × List ℕ))
      → SoFarIn start first old before desk (requests_in own) → AsksIn old before desk Flush frames new after desk'
      → CallIn start first (own ++ Flush ∷ []) frames new after desk'
  turned_now start first (Memory old) new before after desk desk' own frames was is = absurd was
  turned_now start first (Disk old) (Memory new) before after desk desk' own frames was is = absurd is
  turned_now start first (Disk old) (Disk new) before after desk desk' own frames was is =
      let call = ends start first (shared_group_state_of old before desk) (shared_group_state_of new after desk') (requests_in own) was.1 is.told is.taken.0
      (is.taken.1, is.taken.2) in
      record {
        told = is.told;
        are = is.are;
        mid = new;
        mid_is = refl;
        serves = subst (λ (l : List (List ℕ)). ServesStretch size start new first (record { bodies = l; told = is.told }) (shared after desk'.owners))
            (sym (requests_same own)) call.0;
        next = (is.size ∙ was.0, call.1);
      }

  -- ---- all turns, behind some that were made since the last call
  record AllCalls (start : Store D g) (first : Shared) (own asks : List (Tagged Brought)) (tolds : List (List (ℕ × List ℕ))) (gone ends : List ℕ)
      (new : ServerState D g) : Type 0 where
    calls : List (CompletedCall ClientReply)
    are : AreTurnsOf size calls (own ++ asks) (silent own ++ tolds) (gone ++ ends)
    made : CallSequence ServesShared (Disk start) first calls new.storage (shared new.host new.desk.owners)

  more_held : (start : Store D g) (first : Shared) (own : List (Tagged Brought)) (ask : Tagged Brought) (asks : List (Tagged Brought))
      (told : List (ℕ × List ℕ)) (tolds : List (List (ℕ × List ℕ))) (gone : List ℕ) (at : ℕ) (ends : List ℕ) (new : ServerState D g)
      → told ≡ [] → AllCalls start first (own ++ ask ∷ []) asks tolds (gone ++ at ∷ []) ends new → AllCalls start first own (ask ∷ asks) (told ∷ tolds) gone
      (at ∷ ends) new
  more_held start first own ask asks told tolds gone at ends new none rest = record {
    calls = rest.calls;
    are = subst (λ (l : List ℕ). AreTurnsOf size rest.calls (own ++ ask ∷ asks) (silent own ++ told ∷ tolds) l) (append_assoc gone (at ∷ []) ends)
        (subst (λ (l : List (Tagged Brought)). AreTurnsOf size rest.calls l (silent own ++ told ∷ tolds) ((gone ++ at ∷ []) ++ ends))
        (append_assoc own (ask ∷ []) asks)
        (subst (λ (l : List (List (ℕ × List ℕ))). AreTurnsOf size rest.calls ((own ++ ask ∷ []) ++ asks) l ((gone ++ at ∷ []) ++ ends))
        (silent_more own ask tolds ∙ ap (λ (l : List (ℕ × List ℕ)). silent own ++ l ∷ tolds) (sym none)) rest.are));
    made = rest.made;
  }

  more_called : (start : Store D g) (first : Shared) (own : List (Tagged Brought)) (ask : Tagged Brought) (asks : List (Tagged Brought))
      (told : List (ℕ × List ℕ)) (tolds : List (List (ℕ × List ℕ))) (gone ends : List ℕ) (mid new : ServerState D g)
      → length own ≡ length gone → (call : CallIn start first (own ++ ask ∷ []) told mid.storage mid.host mid.desk)
      → AllCalls call.mid (shared mid.host mid.desk.owners) [] asks tolds [] ends new
      → AllCalls start first own (ask ∷ asks) (told ∷ tolds) gone (g.moment (disk_of mid.storage) ∷ ends) new
  more_called start first own ask asks told tolds gone ends mid new each call rest = record {
    calls = record { call = record { size = size; bodies = requests_in (own ++ ask ∷ []); replies = call.told }; moment = g.moment (disk_of mid.storage) }
        ∷ rest.calls;
    are = (
      own ++ ask ∷ [],
      asks,
      tolds,
      gone,
      ends,
      refl,
      refl,
      sym (append_assoc own (ask ∷ []) asks),
      ap (λ (l : List (ℕ × List ℕ)). silent own ++ l ∷ tolds) call.are ∙ last_turn own ask (all_frames call.told) tolds,
      refl,
      length-append own (ask ∷ []) ∙ ap (λ (n : ℕ). n + 1) each,
      rest.are,
    );
    made = (Disk call.mid, shared mid.host mid.desk.owners, call.serves, ap (λ (s : Storage D g). g.moment (disk_of s)) call.mid_is, rest.made);
  }

  -- nothing follows
  none_more : (start : Store D g) (mid new : ServerState D g) → mid.storage ≡ Disk start → new ≡ mid
      → AllCalls start (shared mid.host mid.desk.owners) [] [] [] [] [] new
  none_more start mid new at same = record {
    calls = [];
    are = (refl, refl, refl);
    made = (ap (λ (e : ServerState D g). e.storage) same ∙ at, ap (λ (e : ServerState D g). shared e.host e.desk.owners) same);
  }

  -- the last of them is *now*
  all_calls : (start : Store D g) (first : Shared) (old new : ServerState D g) (own asks : List (Tagged Brought)) (tolds : List (List (ℕ × List ℕ)))
      (gone : List ℕ) → length own ≡ length gone
      → SoFarIn start first old.storage old.host old.desk (requests_in own) → (run : AllTurned asked_written old (asks ++ Flush ∷ []) tolds new)
      → AllCalls start first own (asks ++ Flush ∷ []) tolds gone (ends_of_turns old new (asks ++ Flush ∷ []) tolds run) new
  all_calls start first old new own [] (told ∷ []) gone each was run =
      let call = turned_now start first old.storage run.0.storage old.host run.0.host old.desk run.0.desk own told was run.1 in
      more_called start first own Flush [] told [] gone [] run.0 new each call (none_more call.mid run.0 new call.mid_is run.2)
  all_calls start first old new own [] [] gone each was run = absurd run
  all_calls start first old new own [] (told ∷ (more ∷ tolds)) gone each was run = absurd run.2
  all_calls start first old new own (Of client brought ∷ asks) (told ∷ tolds) gone each was run =
      let at = g.moment (disk_of run.0.storage) in
      let ends = ends_of_turns run.0 new (asks ++ Flush ∷ []) tolds run.2 in
      ⊎_elim
      (λ held. more_held start first own (Of client brought) (asks ++ Flush ∷ []) told tolds gone at ends new held.0
      (all_calls start first run.0 new (own ++ Of client brought ∷ []) asks tolds (gone ++ at ∷ []) (one_more own (Of client brought) gone at each) held.1
      run.2))
      (λ call. more_called start first own (Of client brought) (asks ++ Flush ∷ []) told tolds gone ends run.0 new each call
      (all_calls call.mid (shared run.0.host run.0.desk.owners) run.0 new [] asks tolds [] refl call.next run.2))
      (turned start first old.storage run.0.storage old.host run.0.host old.desk run.0.desk own client brought told was run.1)
  all_calls start first old new own (Flush ∷ asks) (told ∷ tolds) gone each was run =
      let call = turned_now start first old.storage run.0.storage old.host run.0.host old.desk run.0.desk own told was run.1 in
      more_called start first own Flush (asks ++ Flush ∷ []) told tolds gone (ends_of_turns run.0 new (asks ++ Flush ∷ []) tolds run.2) run.0 new each call
      (all_calls call.mid (shared run.0.host run.0.desk.owners) run.0 new [] asks tolds [] refl call.next run.2)
  all_calls start first old new own (Of client brought ∷ asks) [] gone each was run = absurd run
  all_calls start first old new own (Flush ∷ asks) [] gone each was run = absurd run

pub calls_of_turns : {D : Type 0} {g : Ghosts D} → ((d : D) (c : List ℕ) → IsTrue (g.is_honest d) → g.image_since d (g.moment d) c → g.image d c)
    → TurnsAreCalls g
calls_of_turns {D} {g} only old new start asks tolds is none empty run =
    let size = old.desk.open_group.size in
    let first : Shared = shared old.host old.desk.owners in
    let nothing : told_to old.desk.askers.items old.desk.open_group.replies.items ≡ [] = ap (λ (l : List ReplyValue). told_to old.desk.askers.items l) none
    ∙ told_none old.desk.askers.items in
    let begun = subst (λ (s : Storage D g). SoFarIn {g = g} only size start first s old.host old.desk (requests_in [])) (sym is)
    (refl, begins {g = g} only size (shared_group_state_of start old.host old.desk) (λ going. (nothing, empty))) in
    let all = all_calls {g = g} only size start first old new [] asks tolds [] refl begun run in (
      all.calls,
      all.are,
      subst (λ (s : Storage D g). CallSequence ServesShared s first all.calls new.storage (shared new.host new.desk.owners))
          (sym is) all.made,
    )
