-- The end of the input. The crates above cite it of their requests.
use Rattle.std.proofs.Common.{◌≡◌, ◌⊎◌, inl, inr, ℕ, true, false, true≢false, IsTrue, List, [], ◌∷◌, ◌++◌, length, map, refl, sym, ◌∙◌, ap, subst}
use Rattle.std.proofs.lemmas.List.{append-nil}
use Rattle.oa_disk.specs.declared.disk.Disk.{Ghosts}
use Rattle.oa_store.specs.declared.store.Store.{Store}
use Rattle.oa_group_commit.specs.promise.Groups.{CallsForRequests, GroupState, IsEnded, IsFaultIn, IsWholeBefore}
use Rattle.oa_group_commit.specs.promise.Groups.{concat_groups, groups_of, rest_of, AllHoldState, CallsFor, IsRun}
use Rattle.oa_group_commit.specs.promise.Groups.{Sequentially, Trace, IsServed, Exchange, StateMachine, body_of}
use Rattle.oa_group_commit.specs.promise.Groups.{reply_of}
use Rattle.oa_group_commit.specs.Invariants.{FailedGroups, GroupInvariant, HealthyGroups, IsCut, IsNextGroup}
use Rattle.oa_store.specs.promise.Writing.{DeviceFrame}
use Rattle.oa_group_commit.proofs.Called.{calls_none}
use Rattle.oa_group_commit.proofs.Counted.{all_calls}
use Rattle.oa_group_commit.proofs.Entries.{IsEnd, cut_last, either, ends_after, group_ends, joined_push, no_entry, run_append, some_entry}
use Rattle.oa_group_commit.proofs.FailedGroups.{faulted_as}
use Rattle.oa_group_commit.proofs.InOpenGroup.{going_as, going_breaks, going_ends}
use Rattle.oa_group_commit.proofs.Stores.{goes_on}

no_group : {X : Type 0} (x : X) → [] ≡ x ∷ [] → ⊥
no_group x e = absurd cc

one_group : {X : Type 0} (x y : X) → x ∷ [] ≡ y ∷ [] → x ≡ y
one_group x y e = cc

module _ {S R : Type 0} (t : StateMachine S R) where
  module _ {D : Type 0} {g : Ghosts D} (only : (d : D) (c : List ℕ) → IsTrue (g.is_honest d) → g.image_since d (g.moment d) c → g.image d c)
      (start : GroupState S R D g) where
    abbrev first : S
    first = start.state

    -- all was answered
    served_all : (size : ℕ) (now : GroupState S R D g) (bodies : List (List ℕ)) (out : List R) → now.pending ≡ [] → now.store.stopped ≡ false
        → DeviceFrame start.store now.store → CallsForRequests (length bodies) 4 start.store now.store
        → HealthyGroups t (IsEnd t.barrier size) start now bodies out
        → IsServed t size start.store now.store first now.state bodies out
    served_all size now bodies out none going goes calls was =
        let empty : was.held ≡ [] = no_entry was.held (sym was.pending_are ∙ none) in
        let whole : concat_groups was.groups ++ was.held ≡ concat_groups (was.groups ++ []) =
        ap (λ (l : List (Exchange R)). concat_groups was.groups ++ l) empty ∙ append-nil (concat_groups was.groups)
        ∙ ap (λ (l : List (List (Exchange R))). concat_groups l) (sym (append-nil was.groups)) in
        let at_last : was.committed ≡ now.state = subst (λ (l : List (Exchange R)). Trace t was.committed l now.state) empty was.runs in
        record {
          groups = was.groups;
          faulted = [];
          others = [];
          served = record {
            bodies_are = was.bodies_are ∙ ap (λ (l : List (Exchange R)). map body_of l) whole
                ∙ sym (append-nil (map body_of (concat_groups (was.groups ++ []))));
            run = subst (λ (l : List (Exchange R)). Trace t first l now.state) whole
                (run_append t first (concat_groups was.groups) was.committed was.held now.state was.stands was.runs);
            groups_are = ap (λ (l : List (Exchange R)). groups_of t.barrier size l) (sym whole) ∙ was.cuts
                ∙ ap (λ (l : List (Exchange R)). was.groups ++ rest_of l) empty;
            fault = λ group is. absurd (no_group group is);
            replies_are = was.out_are ∙ sym (append-nil (map reply_of (concat_groups was.groups)));
          };
          well = λ is. (refl, refl);
          fault = λ is. absurd (true≢false (sym is ∙ going));
          in_turn = all_turn was.calls empty at_last;
          moments = λ begins.
              let run = was.moments begins in (
                run.0,
                subst (λ (l : List (List (Exchange R))). IsRun t g.moment g.image_since start.store.disk now.store.disk first l (length was.groups) run.0)
                    (sym (append-nil was.groups)) run.1,
              );
          all = λ is begins. subst (λ (s : S). AllHoldState t now.store s) at_last (was.all begins);
          calls = calls;
          goes = goes;
        }
      where
        all_turn : (now.store.disk ≡ was.mark) ⊎ CallsFor t was.committed was.held → was.held ≡ [] → was.committed ≡ now.state
            → Sequentially t start.store.disk first (was.groups ++ []) now.store.disk now.state
        all_turn (inr called) empty at_last = absurd (calls_none t was.committed (subst (λ (l : List (Exchange R)). CallsFor t was.committed l) empty called))
        all_turn (inl same) empty at_last =
            subst (λ (l : List (List (Exchange R))). Sequentially t start.store.disk first l now.store.disk now.state) (sym (append-nil was.groups))
            (subst (λ (d : D). Sequentially t start.store.disk first was.groups d now.state) (sym same)
            (subst (λ (s : S). Sequentially t start.store.disk first was.groups was.mark s) at_last was.in_turn))

    -- or up to a fault
    served_part : (size : ℕ) (now : GroupState S R D g) (bodies : List (List ℕ)) (out : List R) → now.store.stopped ≡ true → DeviceFrame start.store now.store
        → CallsForRequests (length bodies) 4 start.store now.store
        → FailedGroups t size (λ state group others. (others ≡ []) ⊎ IsWholeBefore t size state group others) start now bodies out
        → IsServed t size start.store now.store first now.state bodies out
    served_part size now bodies out stopped goes calls was =
        let whole : concat_groups (was.groups ++ was.group ∷ []) ≡ concat_groups was.groups ++ was.group = joined_push was.groups was.group in
        record {
          groups = was.groups;
          faulted = was.group ∷ [];
          others = was.others;
          served = record {
            bodies_are = was.bodies_are ∙ ap (λ (l : List (Exchange R)). map body_of l ++ was.others) (sym whole);
            run = subst (λ (l : List (Exchange R)). Trace t first l now.state) (sym whole)
                (run_append t first (concat_groups was.groups) was.committed was.group now.state was.stands was.runs);
            groups_are = ap (λ (l : List (Exchange R)). groups_of t.barrier size l) whole ∙ was.cuts;
            fault = λ group is. subst (λ (l : List (Exchange R)). IsFaultIn t size first was.groups l was.others) (one_group was.group group is)
                (record { state = was.committed; before = was.stands; called = was.called; ends = was.whole });
            replies_are = was.replies_are
                ∙ ap (λ (l : List (Exchange R)). map reply_of (concat_groups was.groups) ++ (map (λ asked. t.faulted asked.body) l ++ map t.failed was.others))
                (sym (append-nil was.group));
          };
          well = λ is. absurd (true≢false (sym stopped ∙ is));
          fault = λ is. refl;
          in_turn = was.in_turn;
          moments = was.moments;
          all = λ is. absurd (true≢false (sym stopped ∙ is));
          calls = calls;
          goes = goes;
        }

    abbrev Ends : ℕ → GroupState S R D g → List (List ℕ) → List R → Type 0
    Ends size now bodies out = IsServed t size start.store now.store first now.state bodies out

    -- whatever the open group holds, and nothing more comes
    stopped_or_not : (size : ℕ) (now : GroupState S R D g) (bodies : List (List ℕ)) (out : List R) → now.pending ≡ []
        → GroupInvariant t size start now bodies out → Ends size now bodies out
    stopped_or_not size now bodies out none so_far = by (either now.store.stopped)
      where
        calls : CallsForRequests (length bodies) 4 start.store now.store
        calls = all_calls t start now now so_far.goes.shape so_far.goes.honest bodies so_far.calls []
            (inl (record { none = none; nothing = refl; store = refl; state = refl }))

        by : (now.store.stopped ≡ false) ⊎ (now.store.stopped ≡ true) → Ends size now bodies out
        by (inl going) =
            let was = so_far.going going in
            let last : HealthyGroups t (IsEnd t.barrier size) start now bodies out =
            going_as t only start was (IsEnd t.barrier size) (cut_last t.barrier size was.groups was.held was.cuts) in
            served_all size now bodies out none going so_far.goes calls last
        by (inr stopped) = served_part size now bodies out stopped so_far.goes calls
            (faulted_as t only start size (IsWholeBefore t size) (λ state group others. (others ≡ []) ⊎ IsWholeBefore t size state group others)
            (λ state group others is. inr is) now now bodies out out refl refl refl (so_far.broken stopped))

    -- the input has ended
    pub underway_ended : (size : ℕ) (old new : GroupState S R D g) (bodies : List (List ℕ)) (out told : List R) → GroupInvariant t size start old bodies out
        → IsEnded t told old new → Ends size new bodies (out ++ told)
    underway_ended size old new bodies out told so_far (inl idle) =
        subst (λ (l : List R). IsServed t size start.store new.store first new.state bodies l)
        (sym (ap (λ (l : List R). out ++ l) idle.nothing ∙ append-nil out))
        (subst (λ (s : S). IsServed t size start.store new.store first s bodies out) (sym idle.state)
        (subst (λ (s : Store D g). IsServed t size start.store s first old.state bodies out) (sym idle.store)
        (stopped_or_not size old bodies out idle.none so_far)))
    underway_ended size old new bodies out told so_far (inr (inl last)) = by (either new.store.stopped)
      where
        was : HealthyGroups t (IsCut t.barrier size) start old bodies out
        was = so_far.going last.was

        goes : DeviceFrame start.store new.store
        goes = goes_on start.store old.store new.store so_far.goes last.settled.goes

        calls : CallsForRequests (length bodies) 4 start.store new.store
        calls = all_calls t start old new so_far.goes.shape so_far.goes.honest bodies so_far.calls told (inr (inl last))

        ends : IsNextGroup t.barrier size was.groups was.held
        ends = group_ends t.barrier size was.groups was.held (some_entry was.held (λ none. last.some (was.pending_are ∙ none))) was.cuts

        by : (new.store.stopped ≡ false) ⊎ (new.store.stopped ≡ true) → Ends size new bodies (out ++ told)
        by (inl going) =
            served_all size new bodies (out ++ told) (last.settled.well going).1 going goes calls
            (going_ends t only start was (IsEnd t.barrier size) told new going (ends_after t.barrier size was.groups was.held ends) last.settled)
        by (inr stopped) = served_part size new bodies (out ++ told) stopped goes calls
            (going_breaks t only start was size (λ state group others. (others ≡ []) ⊎ IsWholeBefore t size state group others) told new
            (inl refl) stopped ends last.settled)
    underway_ended size old new bodies out told so_far (inr (inr left)) =
        served_part size new bodies (out ++ told) left.over.is (goes_on start.store old.store new.store so_far.goes left.over.goes)
        (all_calls t start old new so_far.goes.shape so_far.goes.honest bodies so_far.calls told (inr (inr left)))
        (faulted_as t only start size (IsWholeBefore t size) (λ state group others. (others ≡ []) ⊎ IsWholeBefore t size state group others)
        (λ state group others is. inr is) old new bodies out (out ++ told) (ap (λ (l : List R). out ++ l) left.nothing ∙ append-nil out) left.over.disk
        left.over.state (so_far.broken left.over.was))
