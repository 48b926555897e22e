use Rattle.std.proofs.Common.{◌≡◌, List, length, refl, sym, ◌∙◌, ap, subst}
use Rattle.std.proofs.lemmas.List.{take_all}
use Rattle.oa_disk.specs.promise.Memory.{moments_of}
use Rattle.oa_history.proofs.Replying.{made_more}
use Rattle.oa_history.specs.promise.CrashHistories.{made_calls}
use Rattle.oa_server.specs.promise.Storages.{Serves}
use Rattle.oa_history.specs.promise.DurablePrefixes.{CallSequence}
use Rattle.oa_history.specs.declared.session.Answer.{Answer}
use Rattle.oa_history.specs.declared.session.ServerCall.{ServerCall}
use Rattle.oa_history.proofs.stopping.answered.Goals as goal

pub calls-init : goal.calls-init
calls-init c = record { all = rw c.new-answers.ensures.items refl; made = (refl, refl) }

pub calls-preserved : goal.calls-preserved
calls-preserved c =
    let old = c.args.server.now.engine in
    let mid = c.calls.server.engine in
    let new = c.run.new.self.engine in
    let answer : Answer = record { replies = c.in_ok-replies.replies; moment = c.moments-moment.result } in
    let more = made_more old.storage old.host c.args.calls.now c.calls.call-index c.calls.answers.items c.push.new.self.items mid.storage mid.host
    c.call-item.result answer new.storage new.host
    c.calls-test.true (sym c.call-item.is) c.in_ok-push.ensures.items c.calls.invariant.all c.calls.invariant.made
    (rw (← c.as_slice.ensures.value) c.in_ok-replies.ensures.serves) (c.moments-moment.ensures ∙ ap moments_of c.disk.ensures) in
    record { all = more.0; made = more.1 }

pub returns-clause-all : goal.returns-clause-all
returns-clause-all c = subst (λ (l : List ServerCall). length c.calls.answers.items ≡ length l)
    (take_all c.calls.call-index c.args.calls.now c.calls-test.false) c.calls.invariant.all

pub returns-clause-made : goal.returns-clause-made
returns-clause-made c =
    let old = c.args.server.now.engine in
    let new = c.calls.server.engine in
    subst (λ (l : List ServerCall). CallSequence Serves old.storage old.host (made_calls l c.calls.answers.items) new.storage new.host)
    (take_all c.calls.call-index c.args.calls.now c.calls-test.false) c.calls.invariant.made
