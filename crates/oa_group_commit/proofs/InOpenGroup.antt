-- An open group: it begins, a request more is held, it ends.
use Rattle.std.proofs.Common.{◌≡◌, ◌⊎◌, inl, inr, ℕ, ◌+◌, ◌<◌, true, false, true≢false, IsTrue, List, [], ◌∷◌, ◌++◌}
use Rattle.std.proofs.Common.{length, map, refl, sym, ◌∙◌, ap, subst, arith, length-append, append_assoc}
use Rattle.std.proofs.lemmas.List.{append-nil, map-append, length-map}
use Rattle.oa_disk.specs.declared.disk.Disk.{Ghosts}
use Rattle.oa_journal.specs.promise.Bank.{Replays}
use Rattle.oa_journal.specs.declared.shape.BankFormat.TheVariants.{Two}
use Rattle.oa_store.specs.promise.Stores.{IsStoreIn}
use Rattle.oa_table.specs.promise.Tables.{TableValue}
use Rattle.oa_store.proofs.Committed.{no_change}
use Rattle.oa_group_commit.specs.promise.Groups.{GroupState, IsDue, FailsAtCheckpoint, IsBuffered, IsGroupCommitted}
use Rattle.oa_group_commit.specs.promise.Groups.{IsWholeBefore, concat_groups, events_in, fills, is_full, AllHoldState}
use Rattle.oa_group_commit.specs.promise.Groups.{CallsFor, HoldsPrefix, HoldsState, IsRun, Trace, Exchange}
use Rattle.oa_group_commit.specs.promise.Groups.{StateMachine, body_of, exchange, reply_of}
use Rattle.oa_group_commit.specs.Invariants.{IsCut, IsNextGroup, HealthyGroups, FailedGroups}
use Rattle.oa_group_commit.proofs.Called.{calls_behind, calls_events, calls_more, calls_one, none_or_some, turn_push}
use Rattle.oa_group_commit.proofs.Entries.{cut_one, events_push, joined_events, joined_push, run_append, run_one, run_replays, run_withdrawn}
use Rattle.oa_group_commit.proofs.Running.{after_all, after_fewer, after_more, run_more, run_on, run_started}
use Rattle.oa_group_commit.proofs.Stores.{held_as, state_held}

module _ {S R : Type 0} (t : StateMachine S R) where
  module _ {D : Type 0} {g : Ghosts D} (only : (d : D) (c : List ℕ) → IsTrue (g.is_honest d) → g.image_since d (g.moment d) c → g.image d c)
      (start : GroupState S R D g) where
    abbrev first : S
    first = start.state

    abbrev Begins : Type 0
    Begins = AllHoldState t start.store start.state

    abbrev Moments : GroupState S R D g → List (List (Exchange R)) → ℕ → Type 0
    Moments now groups count = (moments : List ℕ) × IsRun t g.moment g.image_since start.store.disk now.store.disk first groups count moments

    pub going_start : (size : ℕ) → start.pending ≡ [] → start.events ≡ [] → HealthyGroups t (IsCut t.barrier size) start start [] []
    going_start size none empty = record {
      groups = [];
      held = [];
      committed = first;
      cuts = λ later. refl;
      bodies_are = refl;
      out_are = refl;
      pending_are = none;
      events_are = empty;
      stands = refl;
      runs = refl;
      same = refl;
      same_bank = refl;
      mark = start.store.disk;
      in_turn = (refl, refl);
      calls = inl refl;
      all = λ begins. begins;
      moments =
          λ begins. (
            _,
            run_started t g.moment g.image_since first start.store.disk
                (λ c since. state_held t start.store first begins c (only start.store.disk c begins.all.0 since)),
          );
    }

    -- how the requests are cut may be said otherwise
    pub going_as : {C : List (List (Exchange R)) → List (Exchange R) → Type 0} {now : GroupState S R D g} {bodies : List (List ℕ)} {out : List R}
        (was : HealthyGroups t C start now bodies out)
        (C' : List (List (Exchange R)) → List (Exchange R) → Type 0) → C' was.groups was.held → HealthyGroups t C' start now bodies out
    going_as was C' cuts = record {
      groups = was.groups;
      held = was.held;
      committed = was.committed;
      cuts = cuts;
      bodies_are = was.bodies_are;
      out_are = was.out_are;
      pending_are = was.pending_are;
      events_are = was.events_are;
      stands = was.stands;
      runs = was.runs;
      same = was.same;
      same_bank = was.same_bank;
      mark = was.mark;
      in_turn = was.in_turn;
      calls = was.calls;
      all = was.all;
      moments = was.moments;
    }

    module _ {C : List (List (Exchange R)) → List (Exchange R) → Type 0} {old : GroupState S R D g} {bodies : List (List ℕ)} {out : List R}
        (was : HealthyGroups t C start old bodies out) where
      -- the events of the open group make of what is committed what is held of the state
      makes : Replays old.events (t.held was.committed) (t.held old.state)
      makes = subst (λ (l : List ℕ). Replays l (t.held was.committed) (t.held old.state)) (sym was.events_are)
          (run_replays t was.committed was.held old.state was.runs)

      none_made : length old.events ≡ 0 → t.held old.state ≡ t.held was.committed
      none_made none = sym (no_change old.events (t.held was.committed) (t.held old.state) none makes)

      abbrev InBank : List ℕ → TableValue → Type 0
      InBank c held = IsStoreIn old.store.bank.shape c old.store.library.items held

      -- the state's library is that of what is committed
      under : Begins → (c : List ℕ) → InBank c (t.held was.committed) → HoldsState t was.committed c
      under begins c is = held_as t old.store was.committed (was.all begins) (t.held was.committed) c is

      under_now : Begins → (c : List ℕ) → InBank c (t.held old.state) → HoldsState t old.state c
      under_now begins c is =
          subst (λ (l : List ℕ). IsStoreIn (Two (t.bank old.state)) c l (t.held old.state)) (sym was.same)
          (subst (λ (n : ℕ). IsStoreIn (Two n) c (t.text was.committed) (t.held old.state)) (sym was.same_bank)
          (held_as t old.store was.committed (was.all begins) (t.held old.state) c is))

      -- so far, and for what this request calls
      called_by : (asked : Exchange R) (new : GroupState S R D g) → IsBuffered t asked old new → (new.store.disk ≡ was.mark) ⊎ CallsFor t was.committed
          (was.held ++ asked ∷ [])
      called_by asked new one = by one.calls was.calls
        where
          by : (new.store.disk ≡ old.store.disk) ⊎ IsDue t old.store old.state old.events asked.body
              → (old.store.disk ≡ was.mark) ⊎ CallsFor t was.committed was.held
              → (new.store.disk ≡ was.mark) ⊎ CallsFor t was.committed (was.held ++ asked ∷ [])
          by (inr due) before = inr (calls_behind t was.committed was.held old.state (asked ∷ []) was.runs (calls_one t old.state asked due.makes))
          by (inl same) (inl before) = inl (same ∙ before)
          by (inl same) (inr called) = inr (calls_more t was.committed was.held (asked ∷ []) called)

      -- the open group calls for its events
      settled_by : (told : List R) (new : GroupState S R D g) → IsGroupCommitted t told old new
          → ((new.store.disk ≡ old.store.disk) × (new.store.stopped ≡ false)) ⊎ CallsFor t was.committed was.held
      settled_by told new one = by (none_or_some old.events)
        where
          by : (length old.events ≡ 0) ⊎ (0 < length old.events) → ((new.store.disk ≡ old.store.disk) × (new.store.stopped ≡ false))
              ⊎ CallsFor t was.committed was.held
          by (inl none) = inl (one.quiet none)
          by (inr some) = inr (calls_events t was.committed was.held old.state was.runs (subst (λ (l : List ℕ). 0 < length l) was.events_are some))

      -- a request more is held
      pub going_held : (C' : List (List (Exchange R)) → List (Exchange R) → Type 0) (asked : Exchange R) (new : GroupState S R D g)
          → C' was.groups (was.held ++ asked ∷ []) → IsBuffered t asked old new → HealthyGroups t C' start new (bodies ++ asked.body ∷ []) out
      going_held C' asked new cuts one = record {
        groups = was.groups;
        held = was.held ++ asked ∷ [];
        committed = was.committed;
        cuts = cuts;
        bodies_are = ap (λ (l : List (List ℕ)). l ++ asked.body ∷ []) was.bodies_are
            ∙ sym (map-append body_of (concat_groups was.groups ++ was.held) (asked ∷ []))
            ∙ ap (λ (l : List (Exchange R)). map body_of l) (append_assoc (concat_groups was.groups) was.held (asked ∷ []));
        out_are = was.out_are;
        pending_are = one.pending ∙ ap (λ (l : List R). l ++ asked.reply ∷ []) was.pending_are ∙ sym (map-append reply_of was.held (asked ∷ []));
        events_are = one.events ∙ ap (λ (l : List ℕ). l ++ asked.event) was.events_are ∙ sym (events_push was.held asked);
        stands = was.stands;
        runs = run_append t was.committed was.held old.state (asked ∷ []) new.state was.runs (run_one t old.state asked new.state one.turn);
        same = t.stays asked old.state new.state one.turn one.plain ∙ was.same;
        same_bank = t.sized asked old.state new.state one.turn ∙ was.same_bank;
        mark = was.mark;
        in_turn = was.in_turn;
        calls = called_by asked new one;
        all = λ begins. let before = was.all begins in
            record {
              shape = one.goes.shape ∙ before.shape;
              has = one.carries.library
                  ∙ before.has;
              all = one.carries.each one.going (t.held was.committed) none_made before.all;
            };
        moments = λ begins. let before = was.moments begins in (
          before.0,
          subst (λ (l : List (List (Exchange R))). IsRun t g.moment g.image_since start.store.disk new.store.disk first l (length was.groups) before.0)
              (append-nil was.groups)
              (run_on t g.moment g.image_since first start.store.disk old.store.disk new.store.disk was.groups [] (length was.groups) before.0
              (λ c. InBank c (t.held was.committed)) before.1
              (one.carries.any_moment (t.held was.committed) none_made (was.all begins).all)
              (λ c is. after_more t (length was.groups) first was.groups [] c (after_all t first was.groups was.committed c was.stands (under begins c is)))),
        );
      }

      -- the test of the code is that of the cut
      pub fills_as : (size : ℕ) (asked : Exchange R) (new : GroupState S R D g) → IsBuffered t asked old new
          → fills size (length new.pending) (length new.events) ≡ is_full size (was.held ++ asked ∷ [])
      fills_as size asked new one =
          let group = was.held ++ asked ∷ [] in
          let count : length new.pending ≡ length group =
          omega (
            arith,
            ap length one.pending,
            length-append old.pending (asked.reply ∷ []),
            ap length was.pending_are,
            length-map was.held reply_of,
            length-append was.held (asked ∷ []),
          ) in
          let bytes : new.events ≡ events_in group = one.events ∙ ap (λ (l : List ℕ). l ++ asked.event) was.events_are ∙ sym (events_push was.held asked) in
          ap (λ (n : ℕ). fills size n (length new.events)) count ∙ ap (λ (l : List ℕ). fills size (length group) (length l)) bytes

      abbrev grown : List (List (Exchange R))
      grown = was.groups ++ was.held ∷ []

      stood : Trace t first (concat_groups grown) old.state
      stood = subst (λ (l : List (Exchange R)). Trace t first l old.state) (sym (joined_push was.groups was.held))
          (run_append t first (concat_groups was.groups) was.committed was.held old.state was.stands was.runs)

      abbrev Either : List ℕ → Type 0
      Either c = InBank c (t.held was.committed) ⊎ InBank c (t.held old.state)

      has : Begins → (c : List ℕ) → Either c → HoldsPrefix t (length was.groups) first grown c
      has begins c (inl without) = after_more t (length was.groups) first was.groups (was.held ∷ []) c
          (after_all t first was.groups was.committed c was.stands (under begins c without))
      has begins c (inr with_it) =
          after_fewer t (length grown) (length was.groups) first grown c (omega (arith, length-append was.groups (was.held ∷ [])))
          (after_all t first grown old.state c stood (under_now begins c with_it))

      during : (told : List R) (new : GroupState S R D g) → IsGroupCommitted t told old new → Begins → Moments new grown (length was.groups)
      during told new one begins =
          let before = was.moments begins in (
            before.0,
            run_on t g.moment g.image_since first start.store.disk old.store.disk new.store.disk was.groups (was.held ∷ [])
                (length was.groups) before.0 Either before.1
                (one.commits.any_moment (t.held was.committed) (t.held old.state) makes (was.all begins).all) (has begins),
          )

      committed_now : (told : List R) (new : GroupState S R D g) → new.store.stopped ≡ false → IsGroupCommitted t told old new → Begins
          → AllHoldState t new.store old.state
      committed_now told new going one begins =
          let before = was.all begins in record {
            shape = one.goes.shape ∙ before.shape ∙ ap Two (sym was.same_bank);
            has = one.commits.library ∙ before.has ∙ sym was.same;
            all = one.commits.each going (t.held was.committed) (t.held old.state) makes before.all;
          }

      ended_by : (told : List R) (new : GroupState S R D g) → IsGroupCommitted t told old new → (new.store.disk ≡ was.mark) ⊎ CallsFor t was.committed was.held
      ended_by told new one = by (settled_by told new one) was.calls
        where
          by : ((new.store.disk ≡ old.store.disk) × (new.store.stopped ≡ false)) ⊎ CallsFor t was.committed was.held
              → (old.store.disk ≡ was.mark) ⊎ CallsFor t was.committed was.held
              → (new.store.disk ≡ was.mark) ⊎ CallsFor t was.committed was.held
          by (inr called) before = inr called
          by (inl same) (inl before) = inl (same.0 ∙ before)
          by (inl same) (inr called) = inr called

      -- the open group was committed, and its replies are handed out
      pub going_ends : (C' : List (List (Exchange R)) → List (Exchange R) → Type 0) (told : List R) (new : GroupState S R D g) → new.store.stopped ≡ false
          → C' grown [] → IsGroupCommitted t told old new → HealthyGroups t C' start new bodies (out ++ told)
      going_ends C' told new going cuts one =
          let well = one.well going in
          record {
            groups = grown;
            held = [];
            committed = new.state;
            cuts = cuts;
            bodies_are = was.bodies_are
                ∙ ap (λ (l : List (Exchange R)). map body_of l) (sym (joined_push was.groups was.held) ∙ sym (append-nil (concat_groups grown)));
            out_are = ap (λ (l : List R). l ++ told) was.out_are ∙ ap (λ (l : List R). map reply_of (concat_groups was.groups) ++ l) (well.0 ∙ was.pending_are)
                ∙ sym (map-append reply_of (concat_groups was.groups) was.held)
                ∙ ap (λ (l : List (Exchange R)). map reply_of l) (sym (joined_push was.groups was.held));
            pending_are = well.1;
            events_are = well.2;
            stands = subst (λ (s : S). Trace t first (concat_groups grown) s) (sym one.state) stood;
            runs = refl;
            same = refl;
            same_bank = refl;
            mark = new.store.disk;
            in_turn = turn_push t start.store.disk first was.groups was.mark was.committed was.held new.store.disk new.state was.in_turn
                (subst (λ (s : S). Trace t was.committed was.held s) (sym one.state) was.runs) (ended_by told new one);
            calls = inl refl;
            all = λ begins. subst (λ (s : S). AllHoldState t new.store s) (sym one.state) (committed_now told new going one begins);
            moments = λ begins.
                let on = during told new one begins in
                let size : length was.groups + 1 ≡ length grown = sym (length-append was.groups (was.held ∷ [])) in
                let more = run_more t g.moment g.image_since first start.store.disk new.store.disk grown (length was.groups) on.0 on.1
                (λ c since. after_fewer t (length grown) (length was.groups + 1) first grown c (omega (arith, size)) (after_all t first grown old.state c stood
                (let here = committed_now told new going one begins in state_held t new.store old.state here c (only new.store.disk c here.all.0 since)))) in (
                  _,
                  subst (λ (n : ℕ). IsRun t g.moment g.image_since start.store.disk new.store.disk first grown n (on.0 ++ g.moment new.store.disk ∷ [])) size
                      more,
                );
          }

      -- it could not be committed, and its replies are taken back
      pub going_breaks : (size : ℕ) (W : S → List (Exchange R) → List (List ℕ) → Type 0) (told : List R) (new : GroupState S R D g)
          → W was.committed was.held [] → new.store.stopped ≡ true → IsNextGroup t.barrier size was.groups was.held → IsGroupCommitted t told old new
          → FailedGroups t size W start new bodies (out ++ told)
      going_breaks size W told new whole stopped ends one = record {
        groups = was.groups;
        group = was.held;
        others = [];
        committed = was.committed;
        cuts = ends;
        whole = whole;
        bodies_are = was.bodies_are ∙ sym (append-nil (map body_of (concat_groups was.groups ++ was.held)));
        replies_are = ap (λ (l : List R). l ++ told) was.out_are
            ∙ ap (λ (l : List R). map reply_of (concat_groups was.groups) ++ l)
            (one.broken stopped ∙ ap (λ (l : List R). map t.aborted l) was.pending_are ∙ run_withdrawn t was.committed was.held old.state was.runs
            ∙ sym (append-nil (map (λ asked. t.faulted asked.body) was.held)));
        stands = was.stands;
        runs = subst (λ (s : S). Trace t was.committed was.held s) (sym one.state) was.runs;
        called = by (settled_by told new one);
        in_turn = turn_push t start.store.disk first was.groups was.mark was.committed was.held new.store.disk new.state was.in_turn
            (subst (λ (s : S). Trace t was.committed was.held s) (sym one.state) was.runs) (inr (by (settled_by told new one)));
        moments = during told new one;
      }
        where
          by : ((new.store.disk ≡ old.store.disk) × (new.store.stopped ≡ false)) ⊎ CallsFor t was.committed was.held → CallsFor t was.committed was.held
          by (inl none) = absurd (true≢false (sym stopped ∙ none.1))
          by (inr called) = called

      -- the checkpoint before its event failed: the group ends with this request
      pub going_fails : (size : ℕ) (body : List ℕ) (told : List R) (new : GroupState S R D g) → IsCut t.barrier size was.groups was.held
          → FailsAtCheckpoint t body told old new → FailedGroups t size (IsWholeBefore t size) start new (bodies ++ body ∷ []) (out ++ told)
      going_fails size body told new cuts one =
          let asked : Exchange R = exchange body one.reply one.event in
          let group = was.held ++ asked ∷ [] in
          record {
            groups = was.groups;
            group = group;
            others = [];
            committed = was.committed;
            cuts = cut_one t.barrier size was.groups was.held asked one.plain cuts;
            whole = inl (inr (inl (record {
              none = joined_events was.held asked (sym (ap length was.events_are) ∙ one.due.first) one.none;
              front = was.held;
              last = asked;
              are = refl;
              state = old.state;
              run = was.runs;
              makes = one.due.makes;
            })));
            bodies_are = ap (λ (l : List (List ℕ)). l ++ body ∷ []) was.bodies_are
                ∙ sym (map-append body_of (concat_groups was.groups ++ was.held) (asked ∷ []))
                ∙ ap (λ (l : List (Exchange R)). map body_of l) (append_assoc (concat_groups was.groups) was.held (asked ∷ []))
                ∙ sym (append-nil (map body_of (concat_groups was.groups ++ group)));
            replies_are = ap (λ (l : List R). l ++ told) was.out_are
                ∙ ap (λ (l : List R). map reply_of (concat_groups was.groups) ++ l)
                (one.told_are ∙ ap (λ (l : List R). map t.aborted l ++ t.faulted body ∷ []) was.pending_are
                ∙ ap (λ (l : List R). l ++ t.faulted body ∷ []) (run_withdrawn t was.committed was.held old.state was.runs)
                ∙ sym (map-append (λ asked. t.faulted asked.body) was.held (asked ∷ [])) ∙ sym (append-nil (map (λ asked. t.faulted asked.body) group)));
            stands = was.stands;
            runs = run_append t was.committed was.held old.state (asked ∷ []) new.state was.runs (run_one t old.state asked new.state one.turn);
            called = calls_behind t was.committed was.held old.state (asked ∷ []) was.runs (calls_one t old.state asked one.due.makes);
            in_turn =
                turn_push t start.store.disk first was.groups was.mark was.committed group new.store.disk new.state was.in_turn
                (run_append t was.committed was.held old.state (asked ∷ []) new.state was.runs (run_one t old.state asked new.state one.turn))
                (inr (calls_behind t was.committed was.held old.state (asked ∷ []) was.runs (calls_one t old.state asked one.due.makes)));
            moments = λ begins. let before = was.moments begins in (
              before.0,
              run_on t g.moment g.image_since first start.store.disk old.store.disk new.store.disk was.groups (group ∷ []) (length was.groups) before.0
                  (λ c. InBank c (t.held was.committed)) before.1
                  (one.any_moment (t.held was.committed) none_made (was.all begins).all)
                  (λ c is. after_more t (length was.groups) first was.groups (group ∷ []) c
                  (after_all t first was.groups was.committed c was.stands (under begins c is))),
            );
          }
