-- How a server at work goes on: one request more is taken. The crates above cite it of their requests.
use Rattle.std.proofs.Common.{◌≡◌, ◌⊎◌, inl, inr, ℕ, ◌<◌, arith, true, false, true≢false, IsTrue, List, [], ◌∷◌, ◌++◌}
use Rattle.std.proofs.Common.{length, refl, sym, ◌∙◌, ap, subst, append_assoc}
use Rattle.std.proofs.lemmas.List.{append-nil}
use Rattle.oa_disk.specs.declared.disk.Disk.{Ghosts}
use Rattle.oa_store.specs.declared.store.Store.{Store}
use Rattle.oa_group_commit.specs.promise.Groups.{CallsForRequests, GroupState, IsApart, IsFlushed, IsBarrierAnswered}
use Rattle.oa_group_commit.specs.promise.Groups.{IsAdmitted, IsWholeBefore, BeginsWithBarrier, is_full, Exchange}
use Rattle.oa_group_commit.specs.promise.Groups.{StateMachine, exchange}
use Rattle.oa_group_commit.specs.Invariants.{IsCut, HealthyGroups, FailedGroups, GroupInvariant}
use Rattle.oa_store.specs.promise.Writing.{DeviceFrame}
use Rattle.oa_group_commit.proofs.Counted.{more_calls}
use Rattle.oa_group_commit.proofs.Entries.{cut_before, cut_ends, cut_flushed, cut_holds, either, full_group, group_ends, some_entry}
use Rattle.oa_group_commit.proofs.Stores.{goes_nowhere, goes_on}
use Rattle.oa_group_commit.proofs.Alone.{Idle, breaks_apart, going_apart, going_idle}
use Rattle.oa_group_commit.proofs.FailedGroups.{faulted_more, still_whole}
use Rattle.oa_group_commit.proofs.InOpenGroup.{fills_as, going_breaks, going_ends, going_fails, going_held, going_start}

module _ {S R : Type 0} (t : StateMachine S R) where
  module _ {D : Type 0} {g : Ghosts D} (only : (d : D) (c : List ℕ) → IsTrue (g.is_honest d) → g.image_since d (g.moment d) c → g.image d c)
      (start : GroupState S R D g) where
    pub underway_start : (size : ℕ) → start.store.stopped ≡ false → start.pending ≡ [] → start.events ≡ [] → GroupInvariant t size start start [] []
    underway_start size going none empty = record {
      going = λ is. going_start t only start size none empty;
      broken = λ is. absurd (true≢false (sym is ∙ going));
      calls = λ honest. omega arith;
      goes = goes_nowhere start.store;
    }

    -- a request that is a group of its own, behind those that were answered
    underway_then : (size : ℕ) (mid new : GroupState S R D g) (bodies : List (List ℕ)) (body : List ℕ) (sent told : List R)
        → HealthyGroups t (Idle t size) start mid bodies sent → DeviceFrame start.store mid.store
        → CallsForRequests (length (bodies ++ body ∷ [])) 0 start.store new.store → ((reply : R) × IsBarrierAnswered t (exchange body reply []) told mid new)
        → GroupInvariant t size start new (bodies ++ body ∷ []) (sent ++ told)
    underway_then size mid new bodies body sent told here goes calls due = record {
      going = λ is. going_apart t only start size here (exchange body due.0 []) told new due.1 is;
      broken = λ is. breaks_apart t only start size here (exchange body due.0 []) told new due.1 is;
      calls = calls;
      goes = goes_on start.store mid.store new.store goes due.1.goes;
    }

    -- the open group ends before it
    underway_apart : (size : ℕ) (old new : GroupState S R D g) (bodies : List (List ℕ)) (out : List R) (body : List ℕ) (told : List R)
        → GroupInvariant t size start old bodies out → CallsForRequests (length (bodies ++ body ∷ [])) 0 start.store new.store → IsApart t body told old new
        → GroupInvariant t size start new (bodies ++ body ∷ []) (out ++ told)
    underway_apart size old new bodies out body told so_far calls apart =
        subst (λ (l : List R). GroupInvariant t size start new (bodies ++ body ∷ []) l)
        (append_assoc out apart.before apart.after ∙ ap (λ (l : List R). out ++ l) (sym apart.told_are)) (by apart.flushed)
      where
        was : HealthyGroups t (IsCut t.barrier size) start old bodies out
        was = so_far.going apart.was

        by : IsFlushed t apart.before old apart.mid → GroupInvariant t size start new (bodies ++ body ∷ []) ((out ++ apart.before) ++ apart.after)
        by (inl idle) =
            let goes : DeviceFrame start.store apart.mid.store = subst (λ (s : Store D g). DeviceFrame start.store s) (sym idle.store) so_far.goes in
            let due = apart.going (ap (λ (s : Store D g). s.stopped) idle.store ∙ apart.was) in
            let sent : out ≡ out ++ apart.before = sym (ap (λ (l : List R). out ++ l) idle.nothing ∙ append-nil out) in
            subst (λ (l : List R). GroupInvariant t size start new (bodies ++ body ∷ []) (l ++ apart.after)) sent
            (underway_then size apart.mid new bodies body out apart.after
            (going_idle t only start size old apart.mid bodies out idle.none due.1.idle idle.store idle.state was) goes calls due)
        by (inr last) = on (either apart.mid.store.stopped)
          where
            goes : DeviceFrame start.store apart.mid.store
            goes = goes_on start.store old.store apart.mid.store so_far.goes last.settled.goes

            some : 0 < length was.held
            some = some_entry was.held (λ none. last.some (was.pending_are ∙ none))

            on : (apart.mid.store.stopped ≡ false) ⊎ (apart.mid.store.stopped ≡ true) → GroupInvariant t size start new (bodies ++ body ∷ [])
                ((out ++ apart.before) ++ apart.after)
            on (inl going) =
                underway_then size apart.mid new bodies body (out ++ apart.before) apart.after
                (going_ends t only start was (Idle t size) apart.before apart.mid going
                (cut_flushed t.barrier size was.groups was.held some (cut_before t.barrier size was.groups was.held was.cuts), refl) last.settled) goes calls
                (apart.going going)
            on (inr stopped) =
                let late = apart.late stopped in
                let fault = going_breaks t only start was size (λ state group others. others ≡ []) apart.before apart.mid refl stopped
                (group_ends t.barrier size was.groups was.held some was.cuts) last.settled in
                record {
                  going = λ is. absurd (true≢false (sym late.1.is ∙ is));
                  broken = λ is. subst (λ (l : List R). FailedGroups t size (IsWholeBefore t size) start new (bodies ++ body ∷ []) ((out ++ apart.before) ++ l))
                      (sym late.0)
                      (faulted_more t only start size apart.mid new bodies (out ++ apart.before) body late.1 (λ state group others. others ≡ [])
                      (λ state group others none. inr (subst (λ (l : List (List ℕ)). BeginsWithBarrier t.barrier (l ++ body ∷ [])) (sym none) apart.barrier))
                      fault);
                  calls = calls;
                  goes = goes_on start.store apart.mid.store new.store goes late.1.goes;
                }

    -- one request more
    pub underway_taken : (size : ℕ) (old new : GroupState S R D g) (bodies : List (List ℕ)) (out : List R) (body : List ℕ) (told : List R)
        → GroupInvariant t size start old bodies out → IsAdmitted t size body told old new
        → GroupInvariant t size start new (bodies ++ body ∷ []) (out ++ told)
    underway_taken size old new bodies out body told so_far (inl kept) =
        let was = so_far.going kept.was in
        let taken : IsAdmitted t size body told old new = inl kept in
        let asked : Exchange R = exchange body kept.reply kept.event in
        let full : is_full size (was.held ++ asked ∷ []) ≡ false = sym (fills_as t only start was size asked new kept.held) ∙ kept.short in
        let now : HealthyGroups t (IsCut t.barrier size) start new (bodies ++ body ∷ []) out = going_held t only start was (IsCut t.barrier size) asked new
        (cut_holds t.barrier size was.groups was.held asked kept.held.plain was.cuts full) kept.held in
        record {
          going = λ is. subst (λ (l : List R). HealthyGroups t (IsCut t.barrier size) start new (bodies ++ body ∷ []) l)
              (sym (ap (λ (l : List R). out ++ l) kept.nothing ∙ append-nil out)) now;
          broken = λ is. absurd (true≢false (sym is ∙ kept.held.going));
          calls = more_calls t start old new so_far.goes.shape so_far.goes.honest bodies so_far.calls size body told taken;
          goes = goes_on start.store old.store new.store so_far.goes kept.held.goes;
        }
    underway_taken size old new bodies out body told so_far (inr (inl filled)) =
        let was = so_far.going filled.was in
        let taken : IsAdmitted t size body told old new = inr (inl filled) in
        let asked : Exchange R = exchange body filled.reply filled.event in
        let group = was.held ++ asked ∷ [] in
        let full : is_full size group ≡ true = sym (fills_as t only start was size asked filled.mid filled.held) ∙ filled.full in
        let between = goes_on start.store old.store filled.mid.store so_far.goes filled.held.goes in
        let here : HealthyGroups t (λ groups held. IsCut t.barrier size (groups ++ held ∷ []) [] × (is_full size held ≡ true)) start filled.mid
        (bodies ++ body ∷ []) out =
        going_held t only start was (λ groups held. IsCut t.barrier size (groups ++ held ∷ []) [] × (is_full size held ≡ true)) asked filled.mid
        (cut_ends t.barrier size was.groups was.held asked filled.held.plain was.cuts full, full) filled.held in
        record {
          going = λ is. going_ends t only start here (IsCut t.barrier size) told new is here.cuts.0 filled.settled;
          broken = λ is. going_breaks t only start here size (IsWholeBefore t size) told new (inl (inl here.cuts.1)) is
              (full_group t.barrier size here.groups here.held here.cuts.0) filled.settled;
          calls = more_calls t start old new so_far.goes.shape so_far.goes.honest bodies so_far.calls size body told taken;
          goes = goes_on start.store filled.mid.store new.store between filled.settled.goes;
        }
    underway_taken size old new bodies out body told so_far (inr (inr (inl faulted))) =
        let was = so_far.going faulted.was in
        let taken : IsAdmitted t size body told old new = inr (inr (inl faulted)) in
        record {
          going = λ is. absurd (true≢false (sym faulted.failed.stopped ∙ is));
          broken = λ is. going_fails t only start was size body told new was.cuts faulted.failed;
          calls = more_calls t start old new so_far.goes.shape so_far.goes.honest bodies so_far.calls size body told taken;
          goes = goes_on start.store old.store new.store so_far.goes faulted.failed.goes;
        }
    underway_taken size old new bodies out body told so_far (inr (inr (inr (inr apart)))) =
        let taken : IsAdmitted t size body told old new = inr (inr (inr (inr apart))) in
        underway_apart size old new bodies out body told so_far
        (more_calls t start old new so_far.goes.shape so_far.goes.honest bodies so_far.calls size body told taken) apart
    underway_taken size old new bodies out body told so_far (inr (inr (inr (inl late)))) =
        let taken : IsAdmitted t size body told old new = inr (inr (inr (inl late))) in record {
          going = λ is. absurd (true≢false (sym late.over.is ∙ is));
          broken = λ is. subst (λ (l : List R). FailedGroups t size (IsWholeBefore t size) start new (bodies ++ body ∷ []) (out ++ l)) (sym late.told_is)
              (faulted_more t only start size old new bodies out body late.over (IsWholeBefore t size) (still_whole t size body) (so_far.broken late.over.was));
          calls = more_calls t start old new so_far.goes.shape so_far.goes.honest bodies so_far.calls size body told taken;
          goes = goes_on start.store old.store new.store so_far.goes late.over.goes;
        }
