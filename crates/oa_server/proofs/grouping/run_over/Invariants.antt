use Rattle.std.proofs.Common.{◌≡◌, ◌+◌, ◌≤◌, false, true, [], take, map, length}
use Rattle.std.specs.Prelude.{vec_capacity}
use Rattle.oa_group_commit.specs.Invariants.{GroupInvariant}
use Rattle.oa_server.specs.promise.ServerMachine.{AnswersAfterFault, server_machine}
use Rattle.oa_server.specs.OpenGroups.{HasBanks, IsReady, grouping}
use Rattle.oa_server.proofs.grouping.run_over.Given as goal

abbrev pub invariant-bodies : goal.invariant-bodies
invariant-bodies g l = record {
  ready : IsReady l.store l.open_group.size (vec_capacity l.open_group.replies) l.open_group.replies.items l.open_group.batch;
  banks : HasBanks l.store l.host;
  size : l.open_group.size ≡ l.group;
  count : length l.out.items + length l.open_group.replies.items ≡ l.body-index;
  places : length l.bodies ≤ vec_capacity l.out;
  going : l.fn.store.stopped ≡ false → GroupInvariant server_machine l.group (grouping l.fn.store l.fn.host [] [])
      (grouping l.store l.host l.open_group.replies.items l.open_group.batch) (map (λ b. b.items) (take l.body-index l.bodies)) l.out.items;
  late : l.fn.store.stopped ≡ true → AnswersAfterFault l.fn.store l.store l.fn.host l.host (map (λ b. b.items) (take l.body-index l.bodies)) l.out.items;
}
