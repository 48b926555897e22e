-- A request that is a group of its own, where no group is open.
use Rattle.std.proofs.Common.{◌≡◌, ◌⊎◌, inl, inr, ℕ, ◌+◌, true, false, IsTrue, List, [], ◌∷◌, ◌++◌}
use Rattle.std.proofs.Common.{length, map, refl, sym, ◌∙◌, ap, subst, arith, length-append}
use Rattle.std.proofs.lemmas.List.{append-nil, map-append}
use Rattle.oa_disk.specs.declared.disk.Disk.{Ghosts}
use Rattle.oa_store.specs.declared.store.Store.{Store}
use Rattle.oa_group_commit.specs.promise.Groups.{GroupState, IsBarrierAnswered, IsWholeBefore, concat_groups, events_in}
use Rattle.oa_group_commit.specs.promise.Groups.{AllHoldState, CallsFor, HoldsPrefix, HoldsState, IsRun, Sequentially}
use Rattle.oa_group_commit.specs.promise.Groups.{Trace, Exchange, StateMachine, body_of, reply_of}
use Rattle.oa_group_commit.specs.Invariants.{IsCut, HealthyGroups, FailedGroups}
use Rattle.oa_group_commit.proofs.Called.{calls_none, turn_push}
use Rattle.oa_group_commit.proofs.Entries.{IsCutBefore, apart_group, cut_apart, cut_before, either, joined_push, no_entry, run_append, run_one}
use Rattle.oa_group_commit.proofs.Running.{after_all, after_fewer, after_more, run_more, run_on}
use Rattle.oa_group_commit.proofs.Stores.{state_held}

module _ {S R : Type 0} (t : StateMachine S R) where
  -- no group is open
  abbrev pub Idle : ℕ → List (List (Exchange R)) → List (Exchange R) → Type 0
  Idle size groups held = IsCutBefore t.barrier size groups held × (held ≡ [])

  module _ {D : Type 0} {g : Ghosts D} (only : (d : D) (c : List ℕ) → IsTrue (g.is_honest d) → g.image_since d (g.moment d) c → g.image d c)
      (start : GroupState S R D g) where
    abbrev first : S
    first = start.state

    abbrev Begins : Type 0
    Begins = AllHoldState t start.store start.state

    abbrev Moments : GroupState S R D g → List (List (Exchange R)) → ℕ → Type 0
    Moments now groups count = (moments : List ℕ) × IsRun t g.moment g.image_since start.store.disk now.store.disk first groups count moments

    module _ {old : GroupState S R D g} {bodies : List (List ℕ)} {out : List R} (size : ℕ) (was : HealthyGroups t (Idle size) start old bodies out) where
      -- so many groups were answered, and no group is open
      idle_run : Trace t first (concat_groups was.groups) old.state
      idle_run = let none = was.cuts.1 in
          subst (λ (s : S). Trace t first (concat_groups was.groups) s) (subst (λ (l : List (Exchange R)). Trace t was.committed l old.state) none was.runs)
          was.stands

      idle_turn : Sequentially t start.store.disk first was.groups old.store.disk old.state
      idle_turn = subst (λ (d : D). Sequentially t start.store.disk first was.groups d old.state) (sym (marked was.calls))
          (subst (λ (s : S). Sequentially t start.store.disk first was.groups was.mark s)
          (subst (λ (l : List (Exchange R)). Trace t was.committed l old.state) was.cuts.1 was.runs) was.in_turn)
        where
          marked : (old.store.disk ≡ was.mark) ⊎ CallsFor t was.committed was.held → old.store.disk ≡ was.mark
          marked (inl same) = same
          marked (inr called) = absurd (calls_none t was.committed (subst (λ (l : List (Exchange R)). CallsFor t was.committed l) was.cuts.1 called))

      module _ (asked : Exchange R) (told : List R) (new : GroupState S R D g) (one : IsBarrierAnswered t asked told old new) where
        abbrev more : List (List (Exchange R))
        more = was.groups ++ (asked ∷ []) ∷ []

        idle_all : Begins → AllHoldState t old.store old.state
        idle_all begins =
            subst (λ (s : S). AllHoldState t old.store s) (subst (λ (l : List (Exchange R)). Trace t was.committed l old.state) was.cuts.1 was.runs)
            (was.all begins)

        apart_run : Trace t first (concat_groups more) new.state
        apart_run = subst (λ (l : List (Exchange R)). Trace t first l new.state) (sym (joined_push was.groups (asked ∷ [])))
            (run_append t first (concat_groups was.groups) old.state (asked ∷ []) new.state idle_run (run_one t old.state asked new.state one.turn))

        apart_has : (c : List ℕ) → HoldsState t old.state c ⊎ HoldsState t new.state c → HoldsPrefix t (length was.groups) first more c
        apart_has c (inl without) = after_more t (length was.groups) first was.groups ((asked ∷ []) ∷ []) c
            (after_all t first was.groups old.state c idle_run without)
        apart_has c (inr with_it) = after_fewer t (length more) (length was.groups) first more c (omega (arith, length-append was.groups ((asked ∷ []) ∷ [])))
            (after_all t first more new.state c apart_run with_it)

        apart_during : Begins → Moments new more (length was.groups)
        apart_during begins =
            let before = was.moments begins in (
              before.0,
              run_on t g.moment g.image_since first start.store.disk old.store.disk new.store.disk was.groups ((asked ∷ []) ∷ []) (length was.groups) before.0
                  (λ c. HoldsState t old.state c ⊎ HoldsState t new.state c) before.1
                  (one.any_moment (idle_all begins)) apart_has,
            )

        apart_bodies : bodies ++ asked.body ∷ [] ≡ map body_of (concat_groups more ++ [])
        apart_bodies =
            ap (λ (l : List (List ℕ)). l ++ asked.body ∷ [])
            (was.bodies_are ∙ ap (λ (l : List (Exchange R)). map body_of (concat_groups was.groups ++ l)) was.cuts.1
            ∙ ap (λ (l : List (Exchange R)). map body_of l) (append-nil (concat_groups was.groups)))
            ∙ sym (map-append body_of (concat_groups was.groups) (asked ∷ []))
            ∙ ap (λ (l : List (Exchange R)). map body_of l) (sym (joined_push was.groups (asked ∷ [])) ∙ sym (append-nil (concat_groups more)))

        -- the device is called for a replacement that is done
        apart_done : t.is_done asked.reply ≡ true → CallsFor t old.state (asked ∷ [])
        apart_done done = record { front = []; asked = asked; back = []; are = refl; state = old.state; run = refl; calls = inr (one.barrier, done) }

        apart_calls : (t.is_done asked.reply ≡ false) ⊎ (t.is_done asked.reply ≡ true) → (new.store.disk ≡ old.store.disk) ⊎ CallsFor t old.state (asked ∷ [])
        apart_calls (inr done) = inr (apart_done done)
        apart_calls (inl refused) = inl (one.quiet refused)

        apart_turn : (new.store.disk ≡ old.store.disk) ⊎ CallsFor t old.state (asked ∷ []) → Sequentially t start.store.disk first more new.store.disk new.state
        apart_turn calls = turn_push t start.store.disk first was.groups old.store.disk old.state (asked ∷ []) new.store.disk new.state idle_turn
            (run_one t old.state asked new.state one.turn) calls

        -- the library was replaced, or that was refused
        pub going_apart : new.store.stopped ≡ false → HealthyGroups t (IsCut t.barrier size) start new (bodies ++ asked.body ∷ []) (out ++ told)
        going_apart going = record {
          groups = more;
          held = [];
          committed = new.state;
          cuts = cut_apart t.barrier size was.groups asked one.barrier
              (subst (λ (l : List (Exchange R)). IsCutBefore t.barrier size was.groups l) was.cuts.1 was.cuts.0);
          bodies_are = apart_bodies;
          out_are = ap (λ (l : List R). l ++ told) was.out_are ∙ ap (λ (l : List R). map reply_of (concat_groups was.groups) ++ l) (one.well going)
              ∙ sym (map-append reply_of (concat_groups was.groups) (asked ∷ []))
              ∙ ap (λ (l : List (Exchange R)). map reply_of l) (sym (joined_push was.groups (asked ∷ [])));
          pending_are = one.idle_still.0;
          events_are = one.idle_still.1;
          stands = apart_run;
          runs = refl;
          same = refl;
          same_bank = refl;
          mark = new.store.disk;
          in_turn = apart_turn (apart_calls (either (t.is_done asked.reply)));
          calls = inl refl;
          all = λ begins. one.each going (idle_all begins);
          moments = λ begins.
              let on = apart_during begins in
              let size : length was.groups + 1 ≡ length more = sym (length-append was.groups ((asked ∷ []) ∷ [])) in
              let here = one.each going (idle_all begins) in
              let later = run_more t g.moment g.image_since first start.store.disk new.store.disk more (length was.groups) on.0 on.1
              (λ c since. after_fewer t (length more) (length was.groups + 1) first more c (omega (arith, size)) (after_all t first more new.state c apart_run
              (state_held t new.store new.state here c (only new.store.disk c here.all.0 since)))) in (
                _,
                subst (λ (n : ℕ). IsRun t g.moment g.image_since start.store.disk new.store.disk first more n (on.0 ++ g.moment new.store.disk ∷ [])) size
                    later,
              );
        }

        -- a call of the device failed in it
        pub breaks_apart : new.store.stopped ≡ true → FailedGroups t size (IsWholeBefore t size) start new (bodies ++ asked.body ∷ []) (out ++ told)
        breaks_apart stopped = record {
          groups = was.groups;
          group = asked ∷ [];
          others = [];
          committed = old.state;
          cuts = apart_group t.barrier size was.groups asked one.barrier
              (subst (λ (l : List (Exchange R)). IsCutBefore t.barrier size was.groups l) was.cuts.1 was.cuts.0);
          whole = inl (inr (inr one.barrier));
          bodies_are = apart_bodies ∙ ap (λ (l : List (Exchange R)). map body_of l) (append-nil (concat_groups more) ∙ joined_push was.groups (asked ∷ []))
              ∙ sym (append-nil (map body_of (concat_groups was.groups ++ asked ∷ [])));
          replies_are = ap (λ (l : List R). l ++ told) was.out_are ∙ ap (λ (l : List R). map reply_of (concat_groups was.groups) ++ l) (one.broken stopped);
          stands = idle_run;
          runs = run_one t old.state asked new.state one.turn;
          called = apart_done (one.doubt stopped);
          in_turn = apart_turn (inr (apart_done (one.doubt stopped)));
          moments = apart_during;
        }

    -- no group was open
    pub going_idle : (size : ℕ) (old mid : GroupState S R D g) (bodies : List (List ℕ)) (out : List R) → old.pending ≡ [] → (mid.pending ≡ [])
        × (mid.events ≡ []) → mid.store ≡ old.store → mid.state ≡ old.state
        → HealthyGroups t (IsCut t.barrier size) start old bodies out → HealthyGroups t (Idle size) start mid bodies out
    going_idle size old mid bodies out none idle store state was =
        let empty : was.held ≡ [] = no_entry was.held (sym was.pending_are ∙ none) in
        record {
          groups = was.groups;
          held = was.held;
          committed = was.committed;
          cuts = (cut_before t.barrier size was.groups was.held was.cuts, empty);
          bodies_are = was.bodies_are;
          out_are = was.out_are;
          pending_are = idle.0 ∙ sym (ap (λ (l : List (Exchange R)). map reply_of l) empty);
          events_are = idle.1 ∙ sym (ap (λ (l : List (Exchange R)). events_in l) empty);
          stands = was.stands;
          runs = subst (λ (s : S). Trace t was.committed was.held s) (sym state) was.runs;
          same = ap t.text state ∙ was.same;
          same_bank = ap t.bank state ∙ was.same_bank;
          mark = was.mark;
          in_turn = was.in_turn;
          calls = idle_calls was.calls;
          all = λ begins. subst (λ (s : Store D g). AllHoldState t s was.committed) (sym store) (was.all begins);
          moments = λ begins. let run = was.moments begins in (
            run.0,
            subst (λ (s : Store D g). IsRun t g.moment g.image_since start.store.disk s.disk first was.groups (length was.groups) run.0) (sym store) run.1,
          );
        }
      where
        idle_calls : (old.store.disk ≡ was.mark) ⊎ CallsFor t was.committed was.held → (mid.store.disk ≡ was.mark) ⊎ CallsFor t was.committed was.held
        idle_calls (inl same) = inl (ap (λ (s : Store D g). s.disk) store ∙ same)
        idle_calls (inr called) = inr called
