-- When a call is one group.
use Rattle.std.specs.Prelude.{◌<◌, ◌≤◌, ℕ, Bool, List, length}
use Rattle.oa_model.specs.promise.Limits.{group_bytes}
use Rattle.oa_group_commit.specs.promise.Groups.{HasNoBarrier, concat_groups, events_in, AnsweredCall, IsCalled}
use Rattle.oa_group_commit.specs.promise.Groups.{Exchange, StateMachine}

-- A call with at most a group's number of bodies, none of which is a group of its own, is one group, unless its
-- events fill one before its end.
abbrev pub FewAreOneGroup : {S R : Type 0} → StateMachine S R → Type 0
FewAreOneGroup {S} {R} t =
    (was : Bool) (first : S) (call : AnsweredCall R) (groups : List (List (Exchange R))) (count : ℕ) (is : Bool)
    (last : S)
    → IsCalled t was first call groups count is last → length call.bodies ≤ call.size
    → HasNoBarrier t.barrier call.bodies
    → length (events_in (concat_groups groups)) < group_bytes → length groups ≤ 1
