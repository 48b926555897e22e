use Rattle.std.proofs.Common.{ap, ◌∙◌}
use Rattle.oa_server.specs.promise.SharedMachine.{end_keeps, shared, taken_back}
use Rattle.oa_decision.specs.promise.States.{State}
use Rattle.oa_turn.specs.promise.Events.{held_of}
use Rattle.oa_server.proofs.locking.let_go.Goals as goal

pub returns-clause-same : goal.returns-clause-same
returns-clause-same c =
    ap held_of c.take_back_cells.ensures ∙ ap (λ l. held_of (taken_back l c.args.host.now)) c.release_all-cells.ensures.own
    ∙ (end_keeps c.args.client (shared c.args.host.now c.args.owners.now)).1.table

pub returns-clause-bank : goal.returns-clause-bank
returns-clause-bank c =
    ap (λ (s : State). s.bank) c.take_back_cells.ensures ∙ ap (λ l. (taken_back l c.args.host.now).bank) c.release_all-cells.ensures.own
    ∙ (end_keeps c.args.client (shared c.args.host.now c.args.owners.now)).0
