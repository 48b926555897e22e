use Rattle.std.proofs.Common.{sym, ap, ◌∙◌, option_copied}
use Rattle.oa_sema.specs.promise.Breaches.{in_interface}
use Rattle.oa_sema.specs.MemberChecks.{breach_by}
use Rattle.oa_sema.proofs.Passes.{answer_found, answer_on, answer_done}
use Rattle.oa_sema.proofs.member_checks.check_members.Goals as goal

pub returns-in-Some : goal.returns-in-Some
returns-in-Some c =
    sym (answer_found (in_interface (breach_by c.args.check)) c.args.items.now c.loop-item.item-index c.item-item.result c.in-Some.name.now
    c.loop-item-test.true c.item-item.is c.loop-item.invariant (sym c.in_ok-found.ensures ∙ ap option_copied c.in-Some.is))

pub loop-item-preserved : goal.loop-item-preserved
loop-item-preserved c = answer_on (in_interface (breach_by c.args.check)) c.args.items.now c.loop-item.item-index c.item-item.result c.loop-item-test.true
    c.item-item.is c.loop-item.invariant (sym c.in_ok-found.ensures ∙ ap option_copied c.in_default.is)

pub returns : goal.returns
returns c = sym (answer_done (in_interface (breach_by c.args.check)) c.args.items.now c.loop-item.item-index c.loop-item-test.false c.loop-item.invariant)
