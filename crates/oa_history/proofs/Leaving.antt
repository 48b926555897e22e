-- What the stop of a session leaves.
use Rattle.std.proofs.Common.{rules, ◌≡◌, ◌⊎◌, inl, inr, ⊎_elim, ℕ, ◌<◌, ◌≤◌, nat_le, min, Bool, true, false, List, refl, sym, subst, arith}
use Rattle.oa_disk.specs.declared.disk.Disk.{Ghosts}
use Rattle.oa_group_commit.specs.promise.Groups.{concat_groups, MayBeLeft, HoldsPrefix, HoldsState, Trace, AnsweredCall}
use Rattle.oa_group_commit.specs.promise.Groups.{IsSessionOn, Exchange, StateMachine}
use Rattle.oa_group_commit.specs.Laws.{CrashKeepsAcknowledged, EndCountsAll, LateCallCounts, OthersAreRun}
use Rattle.oa_group_commit.specs.Sessions.{answered_by}
use Rattle.oa_journal.specs.declared.shape.BankFormat.TheVariants.{Two}
use Rattle.oa_server.specs.promise.Storages.{OverStore, disk_of}
use Rattle.oa_server.specs.declared.storage.Storage.{Storage}
use Rattle.oa_server.specs.declared.storage.Storage.TheVariants.{Disk, Memory}
use Rattle.oa_store.specs.promise.Stores.{IsStoreIn}
use Rattle.oa_store.specs.declared.store.Store.{Store}
use Rattle.oa_table.specs.promise.Tables.{TableValue}
use Rattle.oa_history.specs.promise.CrashHistories.{SessionStart}
use Rattle.oa_history.specs.promise.DurablePrefixes.{CallSequence, CompletedCall, KeepsDurablePrefix, Serving}
use Rattle.oa_history.proofs.CallsOverStore.{IsServing}
use Rattle.oa_history.proofs.Calls.{CountsBy, GroupInvariant, all_made}

module _ {S R : Type 0} (t : StateMachine S R) where
  -- an image holds a state without its locks
  holds_opened : (state : S) (c : List ℕ) → HoldsState t state c → HoldsState t (t.opened state) c
  holds_opened state c holds =
      let same = t.reopens state in
      subst (λ (n : ℕ). IsStoreIn (Two n) c (t.text (t.opened state)) (t.held (t.opened state))) (sym same.2)
      (subst (λ (l : List ℕ). IsStoreIn (Two (t.bank state)) c l (t.held (t.opened state))) (sym same.1)
      (subst (λ (h : TableValue). IsStoreIn (Two (t.bank state)) c (t.text state) h) (sym same.0) holds))

-- an image that is left, and the state that it holds
pub record Left {S R : Type 0} (t : StateMachine S R) (Can : S → Type 0) (stop : ℕ) (calls : List (CompletedCall R)) (before : S) (c : List ℕ) : Type 0 where
  pub after : S
  pub stops : KeepsDurablePrefix t stop calls before after
  pub holds : HoldsState t after c
  pub begins : Can after
  pub unlocked : t.opened after ≡ after

module _ {S R : Type 0} (t : StateMachine S R) (Can : S → Type 0) (again : (state : S) → t.opened (t.opened state) ≡ t.opened state) (no_trace : OthersAreRun t)
    (goes_on : (old new : S) (entries : List (Exchange R)) → Can old → Trace t old entries new → Can new)
    (opens : (state : S) → Can state → Can (t.opened state))
    {D : Type 0} (g : Ghosts D) (keeps : CrashKeepsAcknowledged t g) (counts_all : EndCountsAll t g)
    (disk : D) (calls : List (CompletedCall R)) (before : S) (begins : Can before) (m stop : ℕ) (c : List ℕ) (start : g.moment disk ≤ m) where
  -- The image may be left by a stop at a moment: the one that was wanted, or the last one of the disk, where that comes before.
  session_leaves : (now : D) (last : S) (called : List (AnsweredCall R)) (fault : Bool) (session : IsSessionOn t g disk now before called last)
      → CountsBy t before calls session.groups session.count fault last session.moments
      → (m ≡ stop) ⊎ ((g.moment now ≤ m) × (g.moment now ≤ stop)) → MayBeLeft g now m c → Left t Can stop calls before c
  session_leaves now last called fault session counts at may =
      let kept : HoldsPrefix t (answered_by m session.moments) before session.groups c = keeps disk now before called last session m c start may in
      let due = counts stop in
      record {
        after = t.opened kept.state;
        stops = record {
          groups = session.groups;
          count = due.0;
          fault = fault;
          last = last;
          plays = due.1;
          done = kept.done;
          later = kept.later;
          parts = kept.groups_are;
          enough = ⊎_elim
              (λ same. let by_clock : due.0 ≤ answered_by m session.moments = subst (λ (n : ℕ). due.0 ≤ answered_by n session.moments) (sym same) due.3 in
              omega (arith, by_clock, kept.enough))
              (λ late. let all : answered_by m session.moments ≡ session.count = counts_all disk now before called last session m late.0 in
              omega (arith, all, due.2, kept.enough))
              at;
          state = kept.state;
          run = kept.run;
          barrier = no_trace before (concat_groups kept.done) kept.state kept.run;
          left = refl;
        };
        holds = holds_opened t kept.state c kept.holds;
        begins = opens kept.state (goes_on before kept.state (concat_groups kept.done) begins kept.run);
        unlocked = again kept.state;
      }

  store_leaves : (store : Store D g) (last : S) → GroupInvariant t disk store before calls last
      → (m ≡ stop) ⊎ ((g.moment store.disk ≤ m) × (g.moment store.disk ≤ stop)) → MayBeLeft g store.disk m c
      → (b : Bool) → store.stopped ≡ b → Left t Can stop calls before c
  store_leaves store last is at may false going = let was = is.going going in session_leaves store.disk last was.0 false was.1.session was.2 at may
  store_leaves store last is at may true stopped = let was = is.late stopped in session_leaves store.disk last was.0 true was.1 was.3 at may

  storage_leaves : (storage : Storage D g) (last : S) (now : D) → OverStore storage (λ store. GroupInvariant t disk store before calls last)
      → now ≡ disk_of storage
      → (m ≡ stop) ⊎ ((g.moment now ≤ m) × (g.moment now ≤ stop)) → MayBeLeft g now m c → Left t Can stop calls before c
  storage_leaves (Memory d) last now is of_it at may = absurd is
  storage_leaves (Disk store) last now is of_it at may = store_leaves store last is
      (subst (λ (d : D). (m ≡ stop) ⊎ ((g.moment d ≤ m) × (g.moment d ≤ stop))) of_it at) (subst (λ (d : D). MayBeLeft g d m c) of_it may) store.stopped refl

  pub leaves : (serving : Serving g S R) → IsServing t serving → LateCallCounts t g → (old new : Storage D g) (last : S) (now : D)
      → OverStore old (λ store. SessionStart t disk store before) → CallSequence serving old before calls new last → now ≡ disk_of new
      → (m ≡ stop) ⊎ ((g.moment now ≤ m) × (g.moment now ≤ stop)) → MayBeLeft g now m c → Left t Can stop calls before c
  leaves serving over late_counts old new last now opens made of_it at may =
      storage_leaves new last now (all_made t g serving over late_counts disk before old new last calls opens made) of_it at may

-- the stop is at the moment that was wanted, or at the disk's last one, where that comes before
pub min_at : (m stop end n : ℕ) → m ≡ min stop n → n ≡ end → (m ≡ stop) ⊎ ((end ≤ m) × (end ≤ stop))
min_at m stop end n least is = by (nat_le stop end) refl
  where
    by : (b : Bool) → nat_le stop end ≡ b → (m ≡ stop) ⊎ ((end ≤ m) × (end ≤ stop))
    by true le = let before : stop ≤ end = search (le, rules) in inl (omega (arith, least, is, before))
    by false le = let behind : end < stop = search (le, rules) in inr (omega (arith, least, is, behind), omega (arith, behind))
