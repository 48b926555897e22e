use Rattle.std.proofs.Common.{rules, sym}
use Rattle.oa_turn.proofs.Runs.{run_step}
use Rattle.oa_turn.proofs.host.Machine.run.Goals as goal

pub bodies-preserved : goal.bodies-preserved
bodies-preserved c = record {
  room = search rules;
  count = search rules;
  bank = search rules;
  so_far =
      rw c.push_reserved.ensures.items (run_step (λ b. b.items) c.args.bodies.now c.bodies.body-index c.body-item.result _ _ _ c.bodies.replies.items
      c.turn-reply.result c.bodies-test.true (sym c.body-item.is) c.bodies.invariant.so_far (search rules));
}
