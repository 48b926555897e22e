-- Calls one after another.
use Rattle.std.proofs.Common.{rules, ◌≡◌, ℕ, suc, ◌+◌, ◌≤◌, nat_le, if◌then◌else◌, Bool, true, false, true≢false, List, [], ◌∷◌, ◌++◌, map, length, refl, sym}
use Rattle.std.proofs.Common.{◌∙◌, ap, subst, arith, append_assoc, length-append}
use Rattle.std.proofs.lemmas.List.{append-nil}
use Rattle.oa_disk.specs.declared.disk.Disk.{Ghosts}
use Rattle.oa_group_commit.proofs.Calling.{chained, session_called, session_ended}
use Rattle.oa_group_commit.proofs.Entries.{joined_two, run_append}
use Rattle.oa_group_commit.specs.promise.Groups.{concat_groups, Trace, IsServed, AnsweredCall, IsCalled, IsSession}
use Rattle.oa_group_commit.specs.promise.Groups.{IsSessionOn, OpenSession, Exchange, StateMachine}
use Rattle.oa_group_commit.specs.Laws.{LateCallCounts}
use Rattle.oa_group_commit.specs.Sessions.{answered_by, by_then}
use Rattle.oa_server.specs.promise.Storages.{OverStore, disk_of}
use Rattle.oa_server.specs.declared.storage.Storage.{Storage}
use Rattle.oa_server.specs.declared.storage.Storage.TheVariants.{Disk, Memory}
use Rattle.oa_store.specs.declared.store.Store.{Store}
use Rattle.oa_history.specs.promise.CrashHistories.{SessionStart}
use Rattle.oa_history.specs.promise.DurablePrefixes.{CallSequence, CompletedCall, RunsUpToFault, Serving, over_by}
use Rattle.oa_history.proofs.CallsOverStore.{IsServing, ServesOver}

-- ---- a session under way

-- Wherever the session will be stopped: what was answered by calls that had returned by then counts by the clock, too.
abbrev pub CountsBy : {S R : Type 0} → StateMachine S R → S → List (CompletedCall R) → List (List (Exchange R)) → ℕ → Bool → S → List ℕ → Type 0
CountsBy t before calls groups total fault last moments =
    (stop : ℕ) → (count : ℕ) × RunsUpToFault t stop false before calls groups count fault last × (count ≤ total) × (count ≤ answered_by stop moments)

-- A session was begun on the disk, and these calls were answered: it may go on, or the device has failed in it.
pub record GroupInvariant {S R D : Type 0} {g : Ghosts D} (t : StateMachine S R) (disk : D) (store : Store D g) (before : S) (calls : List (CompletedCall R))
    (last : S) : Type 0 where
  pub going : store.stopped ≡ false → (called : List (AnsweredCall R)) × (was : OpenSession t disk store before last called)
      × CountsBy t before calls was.session.groups was.session.count false last was.session.moments
  pub late : store.stopped ≡ true → (called : List (AnsweredCall R)) × (was : IsSessionOn t g disk store.disk before called last) × (was.stopped ≡ true)
      × CountsBy t before calls was.groups was.count true last was.moments

-- ---- what has come by a moment

by_then_more : (m : ℕ) (xs ys : List ℕ) → by_then m xs ≤ by_then m (xs ++ ys)
by_then_more m [] ys = omega arith
by_then_more m (x ∷ xs) ys = by (nat_le x m) (by_then_more m xs ys)
  where
    by : (b : Bool) → by_then m xs ≤ by_then m (xs ++ ys) → (if b then suc (by_then m xs) else 0) ≤ (if b then suc (by_then m (xs ++ ys)) else 0)
    by true rest = omega (arith, rest)
    by false rest = omega arith

answered_more : (m : ℕ) (xs ys all : List ℕ) → all ≡ xs ++ ys → answered_by m xs ≤ answered_by m all
answered_more m [] ys all are = omega arith
answered_more m (x ∷ xs) ys all are = subst (λ (l : List ℕ). by_then m xs ≤ answered_by m l) (sym are) (by_then_more m xs ys)

over_few : (stop moment here : ℕ) → over_by stop moment here ≤ here
over_few stop moment here = by (nat_le moment stop)
  where
    by : (b : Bool) → (if b then here else 0) ≤ here
    by true = omega arith
    by false = omega arith

-- ---- the replies

plays_push : {S R : Type 0} (t : StateMachine S R) (stop : ℕ) (was : Bool) (first : S) (calls : List (CompletedCall R)) (groups : List (List (Exchange R)))
    (count : ℕ) (fails : Bool) (mid : S) (one : CompletedCall R) (own : List (List (Exchange R))) (here : ℕ) (is : Bool) (last : S)
    → RunsUpToFault t stop was first calls groups count fails mid → IsCalled t fails mid one.call own here is last
    → RunsUpToFault t stop was first (calls ++ one ∷ []) (groups ++ own) (count + over_by stop one.moment here) is last
plays_push {S = S} {R = R} t stop was first [] groups count fails mid one own here is last so_far called = (
  last,
  is,
  own,
  [],
  here,
  0,
  subst (λ (b : Bool). IsCalled t b first one.call own here is last) so_far.2
      (subst (λ (s : S). IsCalled t fails s one.call own here is last) (sym so_far.3) called),
  ap (λ (l : List (List (Exchange R))). l ++ own) so_far.0 ∙ sym (append-nil own),
  omega (arith, so_far.1),
  (refl, refl, refl, refl),
)
plays_push {R = R} t stop was first (c ∷ calls) groups count fails mid one own here is last so_far called = (
  so_far.0,
  so_far.1,
  so_far.2,
  so_far.3 ++ own,
  so_far.4,
  so_far.5 + over_by stop one.moment here,
  so_far.6,
  ap (λ (l : List (List (Exchange R))). l ++ own) so_far.7 ∙ append_assoc so_far.2 so_far.3 own,
  omega (arith, so_far.8),
  plays_push t stop so_far.1 so_far.0 calls so_far.3 so_far.5 fails mid one own here is last so_far.9 called,
)

-- a call behind a fault
nothing : {S R : Type 0} (t : StateMachine S R) (call : AnsweredCall R) (last : S) → call.replies ≡ map t.failed call.bodies
    → IsCalled t true last call [] 0 true last
nothing t call last told = record {
  answered = [];
  faulted = [];
  others = call.bodies;
  served = record {
    bodies_are = refl;
    run = refl;
    groups_are = refl;
    fault = λ group is. absurd (cc);
    replies_are = told;
  };
  groups_are = refl;
  count_is = refl;
  well = λ is. absurd (true≢false is);
  fault = λ is. absurd (true≢false is);
  late = λ is. (refl, refl, refl);
}

-- ---- a call

module _ {S R D : Type 0} (t : StateMachine S R) (g : Ghosts D) (disk : D) (before : S) (calls : List (CompletedCall R)) (one : CompletedCall R) where
  module _ (old new : Store D g) (mid after : S) (called : List (AnsweredCall R)) (was : OpenSession t disk old before mid called)
      (is : IsServed t one.call.size old new mid after one.call.bodies one.call.replies) (at : one.moment ≡ g.moment new.disk)
      (so_far : CountsBy t before calls was.session.groups was.session.count false mid was.session.moments) where
    abbrev now : IsSession t g.moment g.image_since disk new.disk before (called ++ one.call ∷ []) after
    now = session_called t {g = g} disk old new before mid after called one.call was is

    served : IsCalled t false mid one.call (is.groups ++ is.faulted) (length is.groups) new.stopped after
    served = record {
      answered = is.groups;
      faulted = is.faulted;
      others = is.others;
      served = is.served;
      groups_are = refl;
      count_is = refl;
      well = is.well;
      fault = λ before. is.fault;
      late = λ stopped. absurd (true≢false (sym stopped));
    }

    counts_served : CountsBy t before (calls ++ one ∷ []) now.groups now.count new.stopped after now.moments
    counts_served stop =
        let due = so_far stop in
        let own = length is.groups in
        let few = over_few stop one.moment own in (
          due.0 + over_by stop one.moment own,
          plays_push t stop false before calls was.session.groups due.0 false mid one (is.groups ++ is.faulted) own new.stopped after due.1 served,
          omega (arith, due.2, few),
          by (nat_le one.moment stop) refl,
        )
      where
        by : (b : Bool) → nat_le one.moment stop ≡ b → (so_far stop).0 + (if b then length is.groups else 0) ≤ answered_by stop now.moments
        by true le =
            let end : one.moment ≤ stop = search (le, rules) in
            let all : answered_by stop now.moments ≡ was.session.count + length is.groups = session_ended t g.moment g.image_since disk new.disk before
            (called ++ one.call ∷ []) after now stop (subst (λ (n : ℕ). n ≤ stop) at end) in
            omega (arith, all, (so_far stop).2)
        by false le =
            let chain = chained t {g = g} disk old new before mid after called one.call was is in
            let more = answered_more stop was.session.moments chain.1.0 chain.0 chain.1.1 in
            omega (arith, more, (so_far stop).3)

    -- without a fault it may go on
    abbrev sits : new.stopped ≡ false → OpenSession t disk new before after (called ++ one.call ∷ [])
    sits going = record {
      session = now;
      going = going;
      whole = let none : length is.faulted ≡ 0 = ap length (is.well going).0 in
          omega (arith, was.whole, length-append was.session.groups (is.groups ++ is.faulted), length-append is.groups is.faulted, none);
      run = subst (λ (l : List (Exchange R)). Trace t before l after) (sym (joined_two was.session.groups (is.groups ++ is.faulted)))
          (run_append t before (concat_groups was.session.groups) mid (concat_groups (is.groups ++ is.faulted)) after was.run is.served.run);
      all = is.all going was.all;
    }

    underway_served : GroupInvariant t disk new before (calls ++ one ∷ []) after
    underway_served = record {
      going = λ going. (
        called ++ one.call ∷ [],
        sits going,
        subst (λ (b : Bool). CountsBy t before (calls ++ one ∷ []) now.groups now.count b after now.moments) going counts_served,
      );
      late =
          λ stopped. (
            called ++ one.call ∷ [],
            now,
            stopped,
            subst (λ (b : Bool). CountsBy t before (calls ++ one ∷ []) now.groups now.count b after now.moments) stopped counts_served,
          );
    }

  module _ (late_counts : LateCallCounts t g) (now : D) (last : S) (called : List (AnsweredCall R)) (was : IsSessionOn t g disk now before called last)
      (stopped : was.stopped ≡ true) (told : one.call.replies ≡ map t.failed one.call.bodies)
      (so_far : CountsBy t before calls was.groups was.count true last was.moments) where
    pub counts_late : (session : IsSessionOn t g disk now before (called ++ one.call ∷ []) last) × (session.stopped ≡ true)
        × CountsBy t before (calls ++ one ∷ []) session.groups session.count true last session.moments
    counts_late =
        let law = late_counts disk now before last called one.call was stopped told in (
          law.0,
          law.1,
          λ stop.
              let due = so_far stop in
              let few = over_few stop one.moment 0 in
              let push = plays_push t stop false before calls was.groups due.0 true last one [] 0 true last due.1 (nothing t one.call last told) in
              let groups : was.groups ++ [] ≡ law.0.groups = append-nil was.groups ∙ sym law.2 in (
                due.0 + over_by stop one.moment 0,
                subst (λ (l : List (List (Exchange R))). RunsUpToFault t stop false before (calls ++ one ∷ []) l (due.0 + over_by stop one.moment 0) true last)
                    groups push,
                omega (arith, due.2, few, law.3),
                subst (λ (l : List ℕ). due.0 + over_by stop one.moment 0 ≤ answered_by stop l) (sym law.4) (omega (arith, due.3, few)),
              ),
        )

  -- the session goes on by a call
  on_store : LateCallCounts t g → (old new : Store D g) (mid after : S) → GroupInvariant t disk old before calls mid
      → ServesOver t one.call.size old new mid one.call.bodies one.call.replies after → one.moment ≡ g.moment new.disk
      → (b : Bool) → old.stopped ≡ b → GroupInvariant t disk new before (calls ++ one ∷ []) after
  on_store late_counts old new mid after is serves at false going =
      let was = is.going going in underway_served old new mid after was.0 was.1 (serves.served going) at was.2
  on_store late_counts old new mid after is serves at true stopped =
      let was = is.late stopped in
      let late = serves.late stopped in
      let counts = counts_late late_counts old.disk mid was.0 was.1 was.2 late.told was.3 in
      record {
        going = λ going. absurd (true≢false (sym late.stopped ∙ going));
        late = λ again. subst (λ (s : S). (called : List (AnsweredCall R)) × (was : IsSessionOn t g disk new.disk before called s) × (was.stopped ≡ true)
            × CountsBy t before (calls ++ one ∷ []) was.groups was.count true s was.moments) (sym late.state)
            (subst (λ (d : D). (called : List (AnsweredCall R)) × (was : IsSessionOn t g disk d before called mid) × (was.stopped ≡ true)
            × CountsBy t before (calls ++ one ∷ []) was.groups was.count true mid was.moments) (sym late.disk)
            (was.0 ++ one.call ∷ [], counts.0, counts.1, counts.2));
      }

  pub on_storage : (serving : Serving g S R) → IsServing t serving → LateCallCounts t g → (old new : Storage D g) (mid after : S)
      → OverStore old (λ store. GroupInvariant t disk store before calls mid) → serving one.call.size old new mid one.call.bodies one.call.replies after
      → one.moment ≡ g.moment (disk_of new) → OverStore new (λ store. GroupInvariant t disk store before (calls ++ one ∷ []) after)
  on_storage serving over late_counts (Memory old) new mid after is serves at = absurd is
  on_storage serving over late_counts (Disk old) (Memory new) mid after is serves at =
      absurd (over one.call.size old (Memory new) mid one.call.bodies one.call.replies after serves)
  on_storage serving over late_counts (Disk old) (Disk new) mid after is serves at =
      on_store late_counts old new mid after is (over one.call.size old (Disk new) mid one.call.bodies one.call.replies after serves) at old.stopped refl

-- ---- no call

none_on_store : {S R D : Type 0} {g : Ghosts D} (t : StateMachine S R) (disk : D) (store : Store D g) (before : S) → SessionStart t disk store before
    → GroupInvariant t disk store before [] before
none_on_store t disk store before is = record {
  going = λ going. let served = is.sits.session.served in ([], is.sits, λ stop. (0, (served.0, refl, refl, refl), omega arith, omega arith));
  late = λ stopped. absurd (true≢false (sym stopped ∙ is.goes_on));
}

-- ---- all calls

module _ {S R D : Type 0} (t : StateMachine S R) (g : Ghosts D) (serving : Serving g S R) (serves_over : IsServing t serving) (late_counts : LateCallCounts t g)
    (disk : D) (before : S) where
  goes_on : (old new : Storage D g) (mid last : S) (done calls : List (CompletedCall R)) → OverStore old (λ store. GroupInvariant t disk store before done mid)
      → CallSequence serving old mid calls new last → OverStore new (λ store. GroupInvariant t disk store before (done ++ calls) last)
  goes_on old new mid last done [] is made =
      subst (λ (l : List (CompletedCall R)). OverStore new (λ store. GroupInvariant t disk store before l last)) (sym (append-nil done))
      (subst (λ (s : S). OverStore new (λ store. GroupInvariant t disk store before done s)) (sym made.1)
      (subst (λ (s : Storage D g). OverStore s (λ store. GroupInvariant t disk store before done mid)) (sym made.0) is))
  goes_on old new mid last done (one ∷ calls) is made =
      let more = on_storage t g disk before done one serving serves_over late_counts old made.0 mid made.1 is made.2 made.3 in
      subst (λ (l : List (CompletedCall R)). OverStore new (λ store. GroupInvariant t disk store before l last)) (append_assoc done (one ∷ []) calls)
      (goes_on made.0 new made.1 last (done ++ one ∷ []) calls more made.4)

  begun : (storage : Storage D g) → OverStore storage (λ store. SessionStart t disk store before)
      → OverStore storage (λ store. GroupInvariant t disk store before [] before)
  begun (Memory d) is = absurd is
  begun (Disk store) is = none_on_store t disk store before is

  pub all_made : (old new : Storage D g) (last : S) (calls : List (CompletedCall R)) → OverStore old (λ store. SessionStart t disk store before)
      → CallSequence serving old before calls new last → OverStore new (λ store. GroupInvariant t disk store before calls last)
  all_made old new last calls is made = goes_on old new before last [] calls (begun old is) made

-- ---- one call more is made

pub made_push : {S R D : Type 0} {g : Ghosts D} (serving : Serving g S R) (old : Storage D g) (first : S) (calls : List (CompletedCall R)) (mid : Storage D g)
    (state : S) (one : CompletedCall R) (new : Storage D g) (last : S)
    → CallSequence serving old first calls mid state → serving one.call.size mid new state one.call.bodies one.call.replies last
    → one.moment ≡ g.moment (disk_of new) → CallSequence serving old first (calls ++ one ∷ []) new last
made_push {S} {R} {D} {g} serving old first [] mid state one new last made serves at = (
  new,
  last,
  subst (λ (s : S). serving one.call.size old new s one.call.bodies one.call.replies last) made.1
      (subst (λ (s : Storage D g). serving one.call.size s new state one.call.bodies one.call.replies last) made.0 serves),
  at,
  (refl, refl),
)
made_push serving old first (c ∷ calls) mid state one new last made serves at =
    (made.0, made.1, made.2, made.3, made_push serving made.0 made.1 calls mid state one new last made.4 serves at)
