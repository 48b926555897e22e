use Rattle.std.proofs.Common.{[], refl}
use Rattle.oa_decision.specs.ValuePlans.{put_event}
use Rattle.oa_record.specs.declared.opcode.ByCall.TheVariants.{Invoke}
use Rattle.oa_record.specs.declared.request.Request.TheVariants.{ByCall}
use Rattle.oa_turn.proofs.Bringing.{answers, no_release, quiet}
use Rattle.oa_turn.proofs.Eventless.{change_eventless}
use Rattle.oa_turn.proofs.Planning.{change_planned}
use Rattle.oa_turn.proofs.Releases.{is_planned}
use Rattle.oa_turn.proofs.host.Machine.plan.Goals as goal

pub returns-in-Some-Answered-clause-plans : goal.returns-in-Some-Answered-clause-plans
returns-in-Some-Answered-clause-plans c = (
  answers c.args.self.now c.args.body.now c.in-Some-Answered.reply (rw c.in-Some-Answered.field-0-is at c.in-Some-Answered.ensures),
  record { table = refl; library = refl },
)

pub returns-in-Some-Answered-clause-quiet : goal.returns-in-Some-Answered-clause-quiet
returns-in-Some-Answered-clause-quiet c = quiet c.args.self.now c.args.body.now c.one_request.ensures c.in-Some-Answered.reply
    (rw c.in-Some-Answered.field-0-is at c.in-Some-Answered.ensures)

pub returns-in-Some-Answered-clause-released : goal.returns-in-Some-Answered-clause-released
returns-in-Some-Answered-clause-released c =
    λ number of code. no_release c.args.self.now c.args.body.now c.one_request.ensures _ number c.in-Some-Answered.ensures of

pub returns-in-Some-Put-clause-plans : goal.returns-in-Some-Put-clause-plans
returns-in-Some-Put-clause-plans c =
    let is = rw c.in-Some-Put.field-0-is at c.in-Some-Put.ensures in
    let told = rw (c.new-event.ensures, c.into_event.ensures, c.none.ensures, c.tag_of.ensures) at c.plan_change.ensures in
    change_planned c.args.self.now c.args.body.now (ByCall Invoke is.0) (put_event c.in-Some-Put.put) [] c.plan_change.result is.1 is.2.0 is.2.1 told

pub returns-in-Some-Put-clause-quiet : goal.returns-in-Some-Put-clause-quiet
returns-in-Some-Put-clause-quiet c =
    let is = rw c.in-Some-Put.field-0-is at c.in-Some-Put.ensures in
    let told = rw (c.new-event.ensures, c.into_event.ensures, c.none.ensures, c.tag_of.ensures) at c.plan_change.ensures in
    change_eventless c.args.self.now c.args.body.now c.one_request.ensures (ByCall Invoke is.0) is.1 _ (put_event c.in-Some-Put.put) [] c.plan_change.result
    is.2.0 told

pub returns-in-Some-Put-clause-released : goal.returns-in-Some-Put-clause-released
returns-in-Some-Put-clause-released c =
    let is = rw c.in-Some-Put.field-0-is at c.in-Some-Put.ensures in
    let told = rw (c.new-event.ensures, c.into_event.ensures, c.none.ensures, c.tag_of.ensures) at c.plan_change.ensures in
    is_planned c.args.body.now c.one_request.ensures c.args.self.now (ByCall Invoke is.0) is.1 _ (put_event c.in-Some-Put.put) [] c.plan_change.result is.2.0
    told
