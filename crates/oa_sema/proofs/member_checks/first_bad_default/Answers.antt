use Rattle.std.proofs.Common.{sym}
use Rattle.oa_sema.specs.promise.Breaches.{bad_default_in}
use Rattle.oa_sema.proofs.Passes.{answer_found, answer_on, answer_done}
use Rattle.oa_sema.proofs.member_checks.first_bad_default.Goals as goal

pub returns-in-Some : goal.returns-in-Some
returns-in-Some c =
    sym (answer_found bad_default_in c.args.all.now c.loop-declaration.declaration-index c.declaration-item.result c.in-Some.name.now
    c.loop-declaration-test.true c.declaration-item.is c.loop-declaration.invariant (sym c.in-Some.ensures))

pub loop-declaration-preserved : goal.loop-declaration-preserved
loop-declaration-preserved c = answer_on bad_default_in c.args.all.now c.loop-declaration.declaration-index c.declaration-item.result
    c.loop-declaration-test.true c.declaration-item.is c.loop-declaration.invariant (sym c.in_default.ensures)

pub returns : goal.returns
returns c = sym (answer_done bad_default_in c.args.all.now c.loop-declaration.declaration-index c.loop-declaration-test.false c.loop-declaration.invariant)
