use Rattle.std.proofs.Common.{List, refl, sym, ◌∙◌, ap, subst}
use Rattle.std.proofs.lemmas.List.{take_all}
use Rattle.oa_disk.specs.Fuse.{failures_with}
use Rattle.oa_disk.specs.declared.memory.MemoryDisk.{MemoryDisk}
use Rattle.oa_history.proofs.Withstanding.{answered_more}
use Rattle.oa_history.specs.promise.FaultHistories.{Answered}
use Rattle.oa_history.specs.declared.failing.CallOutcome.{CallOutcome}
use Rattle.oa_history.specs.declared.session.ServerCall.{ServerCall}
use Rattle.oa_history.proofs.failing.told_by.Goals as goal

pub calls-init : goal.calls-init
calls-init c = rw c.new-told.ensures.items (refl, refl)

pub calls-preserved : goal.calls-preserved
calls-preserved c =
    let old = c.args.server.now.engine in
    let mid = c.calls.server.engine in
    let new = c.run.new.self.engine in
    let one : CallOutcome = record { replies = c.in_ok-replies.replies; failures = c.failures-failures.result } in
    answered_more old.storage old.host c.args.calls.now c.calls.call-index c.calls.told.items c.push.new.self.items mid.storage mid.host c.call-item.result one
    new.storage new.host
    c.calls-test.true (sym c.call-item.is) c.in_ok-push.ensures.items c.calls.invariant (rw (← c.as_slice.ensures.value) c.in_ok-replies.ensures.serves)
    (c.failures-failures.ensures ∙ ap (failures_with (λ (m : MemoryDisk). m.ledger.failures)) c.disk.ensures)

pub returns-clause-answered : goal.returns-clause-answered
returns-clause-answered c =
    let old = c.args.server.now.engine in
    let new = c.calls.server.engine in
    subst (λ (l : List ServerCall). Answered old.storage old.host l c.calls.told.items new.storage new.host)
    (take_all c.calls.call-index c.args.calls.now c.calls-test.false) c.calls.invariant
