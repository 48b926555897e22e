-- Sessions that were stopped.
use Rattle.std.proofs.Common.{◌≡◌, ℕ, Bool, true, false, if◌then◌else◌, drop, List, [], ◌∷◌, refl, sym, subst}
use Rattle.oa_disk.specs.declared.disk.Disk.{Ghosts}
use Rattle.oa_group_commit.specs.promise.Groups.{concat_groups, accepted, HoldsPrefix, HoldsState, Trace, Exchange}
use Rattle.oa_group_commit.specs.promise.Groups.{StateMachine}
use Rattle.oa_group_commit.specs.History.{IsStopped, StoppedSession, KeepsAcknowledged, KeepsEach, RunEach, Sessions}
use Rattle.oa_group_commit.specs.History.{accepted_each}
use Rattle.oa_group_commit.specs.Laws.{HistoryKeepsAcknowledged, OthersAreRun}
use Rattle.oa_group_commit.specs.Sessions.{by_then}
use Rattle.oa_group_commit.proofs.Calling.{session_stopped}

module _ {S R : Type 0} (t : StateMachine S R) where
  -- A request that was not done leaves no trace: the others alone are a run too, with the same replies.
  pub refused_groups_leave_no_trace : OthersAreRun t
  refused_groups_leave_no_trace old [] new run = run
  refused_groups_leave_no_trace old (asked ∷ entries) new run = by_cases (t.is_done asked.reply) refl (refused_groups_leave_no_trace run.0 entries new run.2)
    where
      by_cases : (done : Bool) → t.is_done asked.reply ≡ done → Trace t run.0 (accepted t entries) new
          → Trace t old (if done then asked ∷ accepted t entries else accepted t entries) new
      by_cases true is rest = (run.0, run.1, rest)
      by_cases false is rest = subst (λ (s : S). Trace t s (accepted t entries) new) (t.leaves asked old run.0 run.1 is) rest

  each_no_trace : (old : S) (kept : List (List (Exchange R))) (new : S) → RunEach t old kept new → RunEach t old (accepted_each t kept) new
  each_no_trace old [] new run = run
  each_no_trace old (kept ∷ others) new run = (run.0, refused_groups_leave_no_trace (t.opened old) kept run.0 run.1, each_no_trace run.0 others new run.2)

  pub keeps : (session : StoppedSession R) (first : S) (image : List ℕ) (is : HoldsPrefix t session.count first session.groups image)
      → KeepsAcknowledged session (concat_groups is.done)
  keeps session first image is = record { done = is.done; later = is.later; groups_are = is.groups_are; kept_are = refl; enough = is.enough }

  module _ {D : Type 0} (g : Ghosts D) where
    -- what a stop leaves has the groups that were answered by then
    left_by : (first : S) (session : StoppedSession R) (found left : List ℕ) → IsStopped t g first session found left
        → HoldsPrefix t session.count first session.groups left
    left_by first session found left is =
        subst (λ (n : ℕ). HoldsPrefix t n first session.groups left) (sym is.count_is)
        (subst (λ (groups : List (List (Exchange R))). HoldsPrefix t (by_then is.stop (drop 1 is.work.moments)) first groups left) (sym is.groups_are)
        (session_stopped t g.moment g.image_since is.start is.now first session.calls is.last is.work is.stop left is.began is.may_be_left))

    runs_each : (state : S) (old : List ℕ) (sessions : List (StoppedSession R)) (new : List ℕ) → Sessions t g state old sessions new → HoldsState t state old
        → (kept : List (List (Exchange R))) × (last : S) × KeepsEach sessions kept × RunEach t state kept last × HoldsState t last new
    runs_each state old [] new same is = ([], state, tt, refl, subst (λ (c : List ℕ). HoldsState t state c) same is)
    runs_each state old (session ∷ sessions) new all is =
        let after = left_by (t.opened state) session old all.0 all.1 in
        let rest = runs_each after.state all.0 sessions new (all.2 after) after.holds in (
          concat_groups after.done ∷ rest.0,
          rest.1,
          (keeps session (t.opened state) all.0 after, rest.2),
          (after.state, after.run, rest.3),
          rest.4,
        )

    -- Wherever sessions are stopped, each opened on what the stop of the one before has left.
    pub crash_histories_keep_groups : HistoryKeepsAcknowledged t g
    crash_histories_keep_groups state old sessions new all is =
        let runs = runs_each state old sessions new all is in (runs.0, runs.1, runs.2, runs.3, each_no_trace state runs.0 runs.1 runs.3, runs.4)
