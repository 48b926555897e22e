use Rattle.std.proofs.Common.{rules, ◌∙◌}
use Rattle.oa_server.proofs.LockTurns.{given_turn}
use Rattle.oa_server.proofs.locking.unlock_for.Goals as goal

pub returns : goal.returns
returns c =
    let said = c.relock-reply.ensures in
    given_turn c.one_request.ensures c.args.client c.args.host.now c.relock-reply.new.host c.args.body.now c.args.cell.now c.relock-reply.result
    c.args.owners.now c.give_back.new.owners c.requires.plain c.requires.asked
    (said.turn _ c.requires.asked) (said.made _ c.requires.asked) (said.same _ c.requires.asked) (search rules)
    (λ done. c.give_back.ensures.given (c.is_done.ensures ∙ done)) (λ undone. c.give_back.ensures.kept (c.is_done.ensures ∙ undone))
