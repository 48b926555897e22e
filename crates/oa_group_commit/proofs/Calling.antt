-- How a session goes on.
use Rattle.std.proofs.Common.{rules, ◌≡◌, inl, inr, ⊎_elim, ℕ, suc, ◌+◌, ◌<◌, ◌≤◌, nat_le, if◌then◌else◌, Some, slice_get, drop, Bool, true}
use Rattle.std.proofs.Common.{false, true≢false, List, [], ◌∷◌, ◌++◌, length, refl, sym, ◌∙◌, ap, subst, arith, length-append, append_assoc}
use Rattle.std.proofs.lemmas.List.{append-nil}
use Rattle.oa_disk.specs.declared.disk.Disk.{Ghosts}
use Rattle.oa_store.specs.declared.store.Store.{Store}
use Rattle.oa_group_commit.specs.promise.Groups.{concat_groups, HoldsPrefix, HoldsState, IsRun, Trace, IsServed}
use Rattle.oa_group_commit.specs.promise.Groups.{AnsweredCall, ServesCalls, IsCalled, IsSession, OpenSession, Exchange}
use Rattle.oa_group_commit.specs.promise.Groups.{StateMachine}
use Rattle.oa_group_commit.specs.Laws.{LateCallCounts, OneFault, OpeningBegins, StopIsLink}
use Rattle.oa_group_commit.specs.Sessions.{by_then}
use Rattle.oa_group_commit.proofs.Entries.{joined_two, run_append}
use Rattle.oa_group_commit.proofs.Running.{after_all, one_moment, run_joined}

last_by_then : (moment m0 : ℕ) (rest : List ℕ) → m0 ≤ moment → (m : ℕ) × (slice_get (m0 ∷ rest) (by_then moment rest) ≡ Some m) × (m ≤ moment)
last_by_then moment m0 [] le = (m0, refl, le)
last_by_then moment m0 (m ∷ rest) le = by_cases (λ below. last_by_then moment m rest below) (nat_le m moment) refl
  where
    by_cases : (m ≤ moment → (k : ℕ) × (slice_get (m ∷ rest) (by_then moment rest) ≡ Some k) × (k ≤ moment)) → (b : Bool) → nat_le m moment ≡ b
        → (k : ℕ) × (slice_get (m0 ∷ m ∷ rest) (if b then suc (by_then moment rest) else 0) ≡ Some k) × (k ≤ moment)
    by_cases again true is = again (search (is, rules))
    by_cases again false is = (m0, refl, le)

-- the last moment that has come
stop_count : (moment start : ℕ) (moments : List ℕ) → slice_get moments 0 ≡ Some start → start ≤ moment → (m : ℕ)
    × (slice_get moments (by_then moment (drop 1 moments)) ≡ Some m) × (m ≤ moment)
stop_count moment start [] is le = absurd (cc)
stop_count moment start (m0 ∷ rest) is le = last_by_then moment m0 rest (subst (λ (n : ℕ). n ≤ moment) (some_is start m0 is) le)
  where
    some_is : (a b : ℕ) → Some b ≡ Some a → a ≡ b
    some_is a b e = cc

-- all moments have come
come_all : (moment : ℕ) (moments : List ℕ) → ((j k : ℕ) → slice_get moments j ≡ Some k → k ≤ moment) → by_then moment moments ≡ length moments
come_all moment [] below = refl
come_all moment (m ∷ moments) below = by (nat_le m moment) refl (come_all moment moments (λ j k is. below (suc j) k is))
  where
    by : (b : Bool) → nat_le m moment ≡ b → by_then moment moments ≡ length moments → (if b then suc (by_then moment moments) else 0) ≡ suc (length moments)
    by true is rest = ap suc rest
    by false is rest = let no : moment < m = search (is, rules) in absurd (omega (arith, no, below 0 m refl))

-- those at the front have come
come_front : (moment : ℕ) (moments others : List ℕ) → ((j k : ℕ) → slice_get moments j ≡ Some k → k ≤ moment)
    → length moments ≤ by_then moment (moments ++ others)
come_front moment [] others below = omega arith
come_front moment (m ∷ moments) others below = by (nat_le m moment) refl (come_front moment moments others (λ j k is. below (suc j) k is))
  where
    by : (b : Bool) → nat_le m moment ≡ b → length moments ≤ by_then moment (moments ++ others)
        → suc (length moments) ≤ (if b then suc (by_then moment (moments ++ others)) else 0)
    by true is rest = omega (arith, rest)
    by false is rest = let no : moment < m = search (is, rules) in absurd (omega (arith, no, below 0 m refl))

-- all moments but the start's, and more behind them
pub come_before : (moment count : ℕ) (moments others all : List ℕ) → all ≡ moments ++ others → length moments ≡ count + 1
    → ((j k : ℕ) → slice_get moments j ≡ Some k → k ≤ moment) → count ≤ by_then moment (drop 1 all)
come_before moment count [] others all are size below = absurd (omega (arith, size))
come_before moment count (m0 ∷ rest) others all are size below =
    let come = come_front moment rest others (λ j k is. below (suc j) k is) in subst (λ (l : List ℕ). count ≤ by_then moment (drop 1 l)) (sym are)
    (omega (arith, size, come))

module _ {S R : Type 0} (t : StateMachine S R) where
  -- one call more
  pub calls_push : (was : Bool) (first : S) (calls : List (AnsweredCall R)) (groups : List (List (Exchange R))) (count : ℕ) (between : Bool) (mid : S)
      (call : AnsweredCall R) (own : List (List (Exchange R))) (here : ℕ) (is : Bool) (last : S)
      → ServesCalls t was first calls groups count between mid → IsCalled t between mid call own here is last
      → ServesCalls t was first (calls ++ call ∷ []) (groups ++ own) (count + here) is last
  calls_push was first [] groups count between mid call own here is last so_far called = (
    last,
    is,
    own,
    [],
    here,
    0,
    subst (λ (b : Bool). IsCalled t b first call own here is last) so_far.2
        (subst (λ (s : S). IsCalled t between s call own here is last) (sym so_far.3) called),
    ap (λ (l : List (List (Exchange R))). l ++ own) so_far.0 ∙ sym (append-nil own),
    omega (arith, so_far.1),
    (refl, refl, refl, refl),
  )
  calls_push was first (c ∷ calls) groups count between mid call own here is last so_far called = (
    so_far.0,
    so_far.1,
    so_far.2,
    so_far.3 ++ own,
    so_far.4,
    so_far.5 + here,
    so_far.6,
    ap (λ (l : List (List (Exchange R))). l ++ own) so_far.7 ∙ append_assoc so_far.2 so_far.3 own,
    omega (arith, so_far.8),
    calls_push so_far.1 so_far.0 calls so_far.3 so_far.5 between mid call own here is last so_far.9 called,
  )

  -- how many groups of a call the device has failed in
  abbrev fails : Bool → Bool → ℕ
  fails false true = 1
  fails false false = 0
  fails true is = 0

  called_count : (was : Bool) (first : S) (call : AnsweredCall R) (own : List (List (Exchange R))) (here : ℕ) (is : Bool) (last : S)
      → IsCalled t was first call own here is last → length own ≡ here + fails was is
  called_count was first call own here is last called =
      by was is called.well called.fault called.late
      (ap length called.groups_are ∙ length-append called.answered called.faulted ∙ ap (λ (n : ℕ). n + length called.faulted) (sym called.count_is))
    where
      by : (was is : Bool) → (is ≡ false → (called.faulted ≡ []) × (called.others ≡ [])) → (was ≡ false → is ≡ true → length called.faulted ≡ 1)
          → (was ≡ true → (called.answered ≡ []) × (called.faulted ≡ []) × (is ≡ true)) → length own ≡ here + length called.faulted
          → length own ≡ here + fails was is
      by false false well fault late size = size ∙ ap (λ (l : List (List (Exchange R))). here + length l) (well refl).0
      by false true well fault late size = size ∙ ap (λ (n : ℕ). here + n) (fault refl refl)
      by true is well fault late size = size ∙ ap (λ (l : List (List (Exchange R))). here + length l) (late refl).1

  -- what has failed stays so
  called_stays : (was : Bool) (first : S) (call : AnsweredCall R) (own : List (List (Exchange R))) (here : ℕ) (is : Bool) (last : S)
      → IsCalled t was first call own here is last → was ≡ true → is ≡ true
  called_stays was first call own here is last called stopped = (called.late stopped).2

  calls_stay : (first : S) (calls : List (AnsweredCall R)) (groups : List (List (Exchange R))) (count : ℕ) (is : Bool) (last : S)
      → ServesCalls t true first calls groups count is last → (is ≡ true) × (length groups ≡ count)
  calls_stay first [] groups count is last all = (all.2, omega (arith, ap length all.0, all.1))
  calls_stay first (call ∷ calls) groups count is last all =
      let stays : all.1 ≡ true = called_stays true first call all.2 all.4 all.1 all.0 all.6 refl in
      let own : length all.2 ≡ all.4 + fails true all.1 = called_count true first call all.2 all.4 all.1 all.0 all.6 in
      let rest = calls_stay all.0 calls all.3 all.5 is last (subst (λ (b : Bool). ServesCalls t b all.0 calls all.3 all.5 is last) stays all.9) in
      let none : fails true all.1 ≡ 0 = ap (fails true) stays in
      (rest.0, omega (arith, ap length all.7, length-append all.2 all.3, own, none, rest.1, all.8))

  -- The device fails in one group at most, and all others were answered.
  calls_count : (first : S) (calls : List (AnsweredCall R)) (groups : List (List (Exchange R))) (count : ℕ) (is : Bool) (last : S)
      → ServesCalls t false first calls groups count is last → length groups ≡ count + fails false is
  calls_count first [] groups count is last all = omega (arith, ap length all.0, all.1, ap (fails false) all.2)
  calls_count first (call ∷ calls) groups count is last all =
      by all.1 (called_count false first call all.2 all.4 all.1 all.0 all.6) all.9 (λ rest. calls_count all.0 calls all.3 all.5 is last rest)
    where
      by : (between : Bool) → length all.2 ≡ all.4 + fails false between → ServesCalls t between all.0 calls all.3 all.5 is last
          → (ServesCalls t false all.0 calls all.3 all.5 is last → length all.3 ≡ all.5 + fails false is) → length groups ≡ count + fails false is
      by false own rest more = omega (arith, ap length all.7, length-append all.2 all.3, own, more rest, all.8)
      by true own rest more =
          let later = calls_stay all.0 calls all.3 all.5 is last rest in
          omega (arith, ap length all.7, length-append all.2 all.3, own, later.1, all.8, ap (fails false) later.0)

  pub one_fault : {D : Type 0} (g : Ghosts D) → OneFault t g
  one_fault g start now first last calls session =
      let all = calls_count first calls session.groups session.count session.stopped last session.served in
      (λ is. omega (arith, all, ap (fails false) is), λ is. omega (arith, all, ap (fails false) is))

  -- A session begins with an opening, at each moment of which the images are those of before.
  pub session_opened : {D : Type 0} {g : Ghosts D} → OpeningBegins t g
  session_opened {D} {g} start now first calls all = record {
    session = record {
      groups = [];
      count = 0;
      stopped = false;
      served = (refl, refl, refl, refl);
      moments = g.moment start ∷ [];
      run = one_moment t g.moment g.image_since first start now.disk [] calls.later (λ c since. stood c (calls.each c since))
          (λ m c le since. ⊎_elim (λ past. inl past) (λ here. inr (stood c here)) (calls.before m c le since));
    };
    going = refl;
    whole = refl;
    run = refl;
    all = all;
  }
    where
      stood : (c : List ℕ) → HoldsState t first c → HoldsPrefix t 0 first [] c
      stood c is = after_all t first [] first c refl is

  module _ {D : Type 0} {g : Ghosts D} (start : D) (mid new : Store D g) (first last after : S) (calls : List (AnsweredCall R)) (call : AnsweredCall R)
      (was : OpenSession t start mid first last calls)
      (is : IsServed t call.size mid new last after call.bodies call.replies) where
    abbrev pub chained : (moments : List ℕ) × ((later : List ℕ) × (moments ≡ was.session.moments ++ later))
        × IsRun t g.moment g.image_since start new.disk first (was.session.groups ++ (is.groups ++ is.faulted))
        (length was.session.groups + length is.groups) moments
    chained =
        let own = is.moments was.all in
        run_joined t g.moment g.image_since first last start mid.disk new.disk was.session.groups (is.groups ++ is.faulted)
        (length is.groups) was.session.moments own.0 was.run
        (subst (λ (n : ℕ). IsRun t g.moment g.image_since start mid.disk first was.session.groups n was.session.moments) was.whole was.session.run)
        own.1

    -- one call more, in which the device may fail
    abbrev pub session_called : IsSession t g.moment g.image_since start new.disk first (calls ++ call ∷ []) after
    session_called = record {
      groups = was.session.groups ++ (is.groups ++ is.faulted);
      count = was.session.count + length is.groups;
      stopped = new.stopped;
      served = calls_push false first calls was.session.groups was.session.count was.session.stopped last call (is.groups ++ is.faulted)
          (length is.groups) new.stopped after was.session.served
          (record {
            answered = is.groups;
            faulted = is.faulted;
            others = is.others;
            served = is.served;
            groups_are = refl;
            count_is = refl;
            well = is.well;
            fault = λ before. is.fault;
            late = λ stopped. absurd (true≢false (sym stopped ∙ was.going));
          });
      moments = chained.0;
      run =
          subst (λ (n : ℕ). IsRun t g.moment g.image_since start new.disk first (was.session.groups ++ (is.groups ++ is.faulted))
          (n + length is.groups) chained.0) (sym was.whole) chained.2;
    }

    -- all that was answered before it counts from then on
    pub session_stands : (m : ℕ) → g.moment mid.disk ≤ m → was.session.count ≤ by_then m (drop 1 session_called.moments)
    session_stands m le = come_before m was.session.count was.session.moments chained.1.0 chained.0 chained.1.1 was.session.run.one_each
        (λ j k at. omega (arith, was.session.run.past j k at, le))

    -- and without a fault the session goes on
    pub session_goes_on : new.stopped ≡ false → OpenSession t start new first after (calls ++ call ∷ [])
    session_goes_on going = record {
      session = session_called;
      going = going;
      whole = let none : length is.faulted ≡ 0 = ap length (is.well going).0 in
          omega (arith, was.whole, length-append was.session.groups (is.groups ++ is.faulted), length-append is.groups is.faulted, none);
      run = subst (λ (l : List (Exchange R)). Trace t first l after) (sym (joined_two was.session.groups (is.groups ++ is.faulted)))
          (run_append t first (concat_groups was.session.groups) last (concat_groups (is.groups ++ is.faulted)) after was.run is.served.run);
      all = is.all going was.all;
    }

    -- with the moments of the call
    pub goes_on_moments : (going : new.stopped ≡ false) → (session_goes_on going).session.moments ≡ session_called.moments
    unfolding session_goes_on
    goes_on_moments going = refl

  -- a call behind a fault
  pub session_late : {D : Type 0} (g : Ghosts D) → LateCallCounts t g
  session_late g start now first last calls call was stopped told = (
    record {
      groups = was.groups;
      count = was.count;
      stopped = true;
      served = subst (λ (l : List (List (Exchange R))). ServesCalls t false first (calls ++ call ∷ []) l was.count true last) (append-nil was.groups)
          (subst (λ (n : ℕ). ServesCalls t false first (calls ++ call ∷ []) (was.groups ++ []) n true last) (omega arith)
          (calls_push false first calls was.groups was.count was.stopped last call [] 0 true last was.served late));
      moments = was.moments;
      run = was.run;
    },
    refl,
    refl,
    refl,
    refl,
  )
    where
      late : IsCalled t was.stopped last call [] 0 true last
      late = record {
        answered = [];
        faulted = [];
        others = call.bodies;
        served = record {
          bodies_are = refl;
          run = refl;
          groups_are = refl;
          fault = λ group is. absurd (cc);
          replies_are = told;
        };
        groups_are = refl;
        count_is = refl;
        well = λ is. absurd (true≢false is);
        fault = λ before. absurd (true≢false (sym stopped ∙ before));
        late = λ is. (refl, refl, refl);
      }

  -- What a stop at some moment of a session leaves is a store of the state after all groups that were answered by then, and some
  -- more perhaps.
  pub session_stopped : {D : Type 0} (moment : D → ℕ) (image_since : D → ℕ → List ℕ → Type 0) (old new : D) (first : S) (calls : List (AnsweredCall R))
      (last : S)
      (session : IsSession t moment image_since old new first calls last) (m : ℕ) (c : List ℕ) → moment old ≤ m → ((k : ℕ) → k ≤ m → image_since new k c)
      → HoldsPrefix t (by_then m (drop 1 session.moments)) first session.groups c
  session_stopped moment image_since old new first calls last session m c later since =
      let come = stop_count m (moment old) session.moments session.run.start later in session.run.images (by_then m (drop 1 session.moments)) come.0 come.1 c
      (since come.0 come.2)

  -- at the end all that were answered
  pub session_ended : {D : Type 0} (moment : D → ℕ) (image_since : D → ℕ → List ℕ → Type 0) (old new : D) (first : S) (calls : List (AnsweredCall R)) (last : S)
      (session : IsSession t moment image_since old new first calls last) (m : ℕ) → moment new ≤ m → by_then m (drop 1 session.moments) ≡ session.count
  session_ended moment image_since old new first calls last session m le =
      by session.moments session.run.one_each (λ j k is. omega (arith, session.run.past j k is, le))
    where
      by : (moments : List ℕ) → length moments ≡ session.count + 1 → ((j k : ℕ) → slice_get moments j ≡ Some k → k ≤ m)
          → by_then m (drop 1 moments) ≡ session.count
      by [] size below = absurd (omega (arith, size))
      by (m0 ∷ rest) size below = come_all m rest (λ j k is. below (suc j) k is) ∙ omega (arith, size)

  -- as a link of the history of a store
  pub session_left : {D : Type 0} (g : Ghosts D) → StopIsLink t g
  session_left g old new first calls last session m c later since = (
    record { calls = calls; groups = session.groups; count = by_then m (drop 1 session.moments) },
    refl,
    refl,
    refl,
    record {
      start = old;
      now = new;
      begins = refl;
      last = last;
      work = session;
      groups_are = refl;
      stop = m;
      began = later;
      count_is = refl;
      may_be_left = since;
    },
    session_stopped g.moment g.image_since old new first calls last session m c later since,
  )
