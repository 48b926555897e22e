-- A group ends, and then a request is taken that is a group of its own: that is one step of a server at work.
use Rattle.std.proofs.Common.{◌≡◌, inl, inr, ℕ, Bool, true, false, true≢false, List, [], ◌∷◌, ◌++◌, map, refl, sym, ap, ◌∙◌, subst, append_assoc}
use Rattle.std.proofs.lemmas.List.{map-append}
use Rattle.oa_disk.specs.declared.disk.Disk.{Ghosts}
use Rattle.oa_frame.specs.promise.Framings.{Frames}
use Rattle.oa_frame.specs.promise.Sessions as sessions
use Rattle.oa_frame.specs.Sessions as more_sessions
use Rattle.oa_frame.specs.declared.session.Served.{Served}
use Rattle.oa_group_commit.specs.promise.Groups.{GroupState, IsEnded, IsFlushed, IsIdle, IsAfterFault}
use Rattle.oa_group_commit.specs.promise.Groups.{IsBarrierAnswered, IsAdmitted, StateMachine, exchange}
use Rattle.oa_store.specs.promise.Writing.{DeviceFrame}
use Rattle.oa_group_commit.proofs.Stores.{goes_on}
use Rattle.oa_record.specs.promise.Replacement.{is_replacement}
use Rattle.oa_record.specs.promise.Replies.{reply_record}
use Rattle.oa_store.specs.declared.store.Store.{Store}
use Rattle.oa_stream.specs.promise.Source.{Input}
use Rattle.oa_stream.specs.promise.Sink.{Output}
use Rattle.oa_server.specs.declared.engine.ServerState.{ServerState}
use Rattle.oa_server.specs.declared.open_group.OpenGroup.{OpenGroup}
use Rattle.oa_server.specs.declared.storage.Storage.{Storage}
use Rattle.oa_server.specs.declared.storage.Storage.TheVariants.{Disk, Memory}
use Rattle.oa_server.specs.OpenGroups.{grouping_of}
use Rattle.oa_server.specs.promise.ServerMachine.{server_machine}
use Rattle.oa_decision.specs.promise.States.{State}
use Rattle.oa_server.specs.Talks.{InputEnds, Taken, ended_written, taken_written}
use Rattle.oa_turn.specs.promise.Turns.{Turn}
use Rattle.oa_server.proofs.Retold.{session_as}

module _ {S R D : Type 0} {g : Ghosts D} where
  same_grouping : (one two : GroupState S R D g) → one.store ≡ two.store → one.state ≡ two.state → one.pending ≡ two.pending → one.events ≡ two.events
      → one ≡ two
  same_grouping one two store state pending events =
      ap (λ (s : Store D g). at s one.state one.pending one.events) store ∙ ap (λ (s : S). at two.store s one.pending one.events) state
      ∙ ap (λ (l : List R). at two.store two.state l one.events) pending ∙ ap (λ (l : List ℕ). at two.store two.state two.pending l) events
    where
      at : Store D g → S → List R → List ℕ → GroupState S R D g
      at store state pending events = record { store = store; state = state; pending = pending; events = events }

  over_from : (old mid new : GroupState S R D g) (told : List R) → IsIdle told old mid → IsAfterFault mid new → IsAfterFault old new
  over_from old mid new told idle over = record {
    was = ap (λ (s : Store D g). s.stopped) (sym idle.store) ∙ over.was;
    is = over.is;
    disk = over.disk ∙ ap (λ (s : Store D g). s.disk) idle.store;
    state = over.state ∙ idle.state;
    goes = subst (λ (s : Store D g). DeviceFrame s new.store) idle.store over.goes;
  }

  over_on : (old mid new : GroupState S R D g) → IsAfterFault old mid → IsAfterFault mid new → IsAfterFault old new
  over_on old mid new one two = record {
    was = one.was;
    is = two.is;
    disk = two.disk ∙ one.disk;
    state = two.state
        ∙ one.state;
    goes = goes_on old.store mid.store new.store one.goes two.goes;
  }

  module _ (t : StateMachine S R) (size : ℕ) (body : List ℕ) (held own : List R) (old mid new : GroupState S R D g) (is : t.barrier body ≡ true)
      (none : mid.pending ≡ []) where
    flushed_from : (before : List R) (later : GroupState S R D g) → IsIdle held old mid → IsFlushed t before mid later → IsFlushed t (held ++ before) old later
    flushed_from before later idle (inl more) =
        inl (record { none = idle.none; nothing = rw (idle.nothing, more.nothing) refl; store = more.store ∙ idle.store; state = more.state ∙ idle.state })
    flushed_from before later idle (inr last) = absurd (last.some none)

    pub ended_taken : IsEnded t held old mid → IsAdmitted t size body own mid new → IsAdmitted t size body (held ++ own) old new
    ended_taken ended (inl kept) = absurd (true≢false (sym is ∙ kept.held.plain))
    ended_taken ended (inr (inl filled)) = absurd (true≢false (sym is ∙ filled.held.plain))
    ended_taken ended (inr (inr (inl faulted))) = absurd (true≢false (sym is ∙ faulted.failed.plain))
    ended_taken (inl idle) (inr (inr (inr (inl late)))) =
        inr (inr (inr (inl (record { over = over_from old mid new held idle late.over; told_is = rw idle.nothing late.told_is }))))
    ended_taken (inl idle) (inr (inr (inr (inr apart)))) = inr (inr (inr (inr (record {
      was = ap (λ (s : Store D g). s.stopped) (sym idle.store) ∙ apart.was;
      barrier = is;
      mid = apart.mid;
      before = held ++ apart.before;
      after = apart.after;
      told_are = ap (λ (l : List R). held ++ l) apart.told_are ∙ sym (append_assoc held apart.before apart.after);
      flushed = flushed_from apart.before apart.mid idle apart.flushed;
      going = apart.going;
      late = apart.late;
    }))))
    ended_taken (inr (inl last)) (inr (inr (inr (inl late)))) = inr (inr (inr (inr (record {
      was = last.was;
      barrier = is;
      mid = mid;
      before = held;
      after = own;
      told_are = refl;
      flushed = inr last;
      going = λ going. absurd (true≢false (sym late.over.was ∙ going));
      late = λ _. (late.told_is, late.over);
    }))))
    ended_taken (inr (inl last)) (inr (inr (inr (inr apart)))) = by apart.flushed
      where
        by : IsFlushed t apart.before mid apart.mid → IsAdmitted t size body (held ++ own) old new
        by (inr more) = absurd (more.some none)
        by (inl idle) =
            let well = last.settled.well apart.was in
            let replaced = apart.going (ap (λ (s : Store D g). s.stopped) idle.store ∙ apart.was) in
            let same = same_grouping apart.mid mid idle.store idle.state (replaced.1.idle.0 ∙ sym none) (replaced.1.idle.1 ∙ sym well.2) in
            inr (inr (inr (inr (record {
              was = last.was;
              barrier = is;
              mid = mid;
              before = held;
              after = apart.after;
              told_are = ap (λ (l : List R). held ++ l) (apart.told_are ∙ ap (λ (l : List R). l ++ apart.after) idle.nothing);
              flushed = inr last;
              going =
                  λ going. (
                    replaced.0,
                    subst (λ (d : GroupState S R D g). IsBarrierAnswered t (exchange body replaced.0 []) apart.after d new) same
                        replaced.1,
                  );
              late = λ stopped. absurd (true≢false (sym stopped ∙ apart.was));
            }))))
    ended_taken (inr (inr left)) (inr (inr (inr (inl late)))) =
        inr (inr (inr (inl (record { over = over_on old mid new left.over late.over; told_is = rw left.nothing late.told_is }))))
    ended_taken (inr (inr left)) (inr (inr (inr (inr apart)))) = absurd (true≢false (sym left.over.is ∙ apart.was))

module _ {D : Type 0} {g : Ghosts D} where
  ended_then : (old mid new : Storage D g) (before between after : State) (open_group open_group' open_group'' : OpenGroup) (body : List ℕ)
      (held own replies : List (List ℕ))
      → is_replacement body ≡ true → InputEnds old before open_group held mid between open_group'
      → Taken mid between open_group' body own new after open_group'' → replies ≡ held ++ own → Taken old before open_group body replies new after open_group''
  ended_then (Memory old) (Memory mid) new before between after open_group open_group' open_group'' body held own replies is e t are =
      (t.0 ∙ e.0, (t.1.0, are ∙ ap (λ (l : List (List ℕ)). l ++ own) e.1.0 ∙ t.1.1, subst (λ (s : State). Turn s body t.1.0 after) e.1.1 t.1.2))
  ended_then (Memory old) (Disk mid) new before between after open_group open_group' open_group'' body held own replies is e t are = absurd (cc e.0)
  ended_then (Disk old) (Disk mid) (Disk new) before between after open_group open_group' open_group'' body held own replies is e t are = record {
    told = e.told ++ t.told;
    are = are ∙ ap (λ (l : List (List ℕ)). l ++ own) e.are ∙ ap (λ (l : List (List ℕ)). map reply_record e.told ++ l) t.are
        ∙ sym (map-append reply_record e.told t.told);
    size = t.size ∙ e.size;
    ready = t.ready;
    taken = ended_taken server_machine open_group.size body e.told t.told (grouping_of old before open_group) (grouping_of mid between open_group')
        (grouping_of new after open_group'') is e.none e.ended (rw e.size at t.taken);
  }
  ended_then (Disk old) (Disk mid) (Memory new) before between after open_group open_group' open_group'' body held own replies is e t are = absurd t.taken
  ended_then (Disk old) (Memory mid) new before between after open_group open_group' open_group'' body held own replies is e t are = absurd e.ended

  -- so a step at any body is what is taken at it
  taken_by : (b : Bool) (old new : ServerState D g) (body : List ℕ) (replies : List (List ℕ)) → is_replacement body ≡ b
      → more_sessions.step_by b taken_written ended_written old body replies new → taken_written old body replies new
  taken_by true old new body replies is s =
      ended_then old.storage s.between.storage new.storage old.host s.between.host new.host old.desk.open_group s.between.desk.open_group new.desk.open_group
      body s.held s.own replies is s.ended s.turned s.are
  taken_by false old new body replies is s = s

  run_taken : (old new : ServerState D g) (bodies : List (List ℕ)) (handed : List (List (List ℕ)))
      → sessions.BodiesTurned (more_sessions.step is_replacement taken_written ended_written) old bodies handed new
      → sessions.BodiesTurned taken_written old bodies handed new
  run_taken old new [] [] run = run
  run_taken old new (body ∷ bodies) (replies ∷ handed) run =
      (run.0, taken_by (is_replacement body) old run.0 body replies refl run.1, run_taken run.0 new bodies handed run.2)
  run_taken old new [] (replies ∷ handed) run = absurd run
  run_taken old new (body ∷ bodies) [] run = absurd run

  pub session_taken : (f : Frames) (last : List ℕ) (input input' : Input) (out out' : Output) (old new : ServerState D g) (served : Served)
      → sessions.Session f is_replacement (more_sessions.step is_replacement taken_written ended_written) ended_written last input input' out out' old new
      served
      → sessions.Session f is_replacement taken_written ended_written last input input' out out' old new served
  session_taken f last input input' out out' old new served is =
      session_as (more_sessions.step is_replacement taken_written ended_written) taken_written ended_written ended_written f is_replacement last input input'
      out out' old new old is.mid new served is
      (run_taken old is.mid is.bodies is.handed is.run) is.ended
