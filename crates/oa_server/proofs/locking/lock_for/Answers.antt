use Rattle.std.proofs.Common.{true≢false, Some, refl, sym, ap, ◌∙◌}
use Rattle.oa_decision.specs.declared.decision.LockChange.TheVariants.{Unlock}
use Rattle.oa_turn.specs.promise.ClientLocks.{with_one}
use Rattle.oa_server.proofs.LockTurns.{locked_turn, no_place}
use Rattle.oa_server.proofs.LocksBack.{lock_undone}
use Rattle.oa_turn.specs.promise.Steps.{after_locks}
use Rattle.oa_server.proofs.locking.lock_for.Goals as goal

pub returns-then-not-is_done : goal.returns-then-not-is_done
returns-then-not-is_done c =
    let said = c.relock-reply.ensures in
    locked_turn c.one_request.ensures c.args.client c.args.host.now c.relock-reply.new.host c.args.body.now c.args.name c.relock-reply.result c.args.owners.now
    c.args.owners.now c.requires.plain c.requires.asked
    (said.turn _ c.requires.asked) (said.made _ c.requires.asked) (said.same _ c.requires.asked)
    (λ done. absurd (true≢false (sym done ∙ sym c.is_done.ensures ∙ c.if-not-is_done.true))) (λ _. refl)

pub returns-in_default : goal.returns-in_default
returns-in_default c =
    let said = c.relock-reply.ensures in
    locked_turn c.one_request.ensures c.args.client c.args.host.now c.relock-reply.new.host c.args.body.now c.args.name c.relock-reply.result c.args.owners.now
    c.add.new.self c.requires.plain c.requires.asked
    (said.turn _ c.requires.asked) (said.made _ c.requires.asked) (said.same _ c.requires.asked)
    (λ _. c.in_default.ensures.added ∙ ap (λ n. with_one c.args.client n c.args.owners.now) c.new-cell.ensures)
    (λ undone. absurd (true≢false (sym c.if-not-is_done.false ∙ c.is_done.ensures ∙ undone)))

pub returns : goal.returns
returns c =
    let back =
    c.take_back.ensures.state
    ∙ ap (λ n. after_locks c.relock-reply.new.host (Some (Unlock n))) (c.name-2.ensures ∙ c.in-Err.ensures.back ∙ c.new-cell.ensures)
    ∙ lock_undone c.one_request.ensures c.args.host.now c.relock-reply.new.host c.args.body.now c.args.name c.relock-reply.result
    (c.relock-reply.ensures.turn _ c.requires.asked) c.requires.asked (sym c.is_done.ensures ∙ c.if-not-is_done.false) in
    rw (back, c.in-Err.ensures.err) (no_place c.args.client c.args.host.now c.args.body.now _ c.bare_reply.result c.args.owners.now c.requires.plain
    c.requires.asked c.bare_reply.ensures)
