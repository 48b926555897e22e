use Rattle.std.proofs.Common.{◌≡◌, ◌≤◌, take, map, length}
use Rattle.std.specs.Prelude.{vec_capacity}
use Rattle.oa_turn.specs.promise.Turns.{Run}
use Rattle.oa_turn.proofs.host.Machine.run.Given as goal

abbrev pub invariant-bodies : goal.invariant-bodies
invariant-bodies l = record {
  room : length l.bodies ≤ vec_capacity l.replies;
  count : length l.replies.items ≡ l.body-index;
  bank : l.self.bank ≡ l.fn.self.bank;
  so_far : Run l.fn.self (map (λ b. b.items) (take l.body-index l.bodies)) l.replies.items l.self;
}
