use Rattle.oa_turn.proofs.Eventless.{change_eventless}
use Rattle.oa_turn.proofs.Planning.{change_planned}
use Rattle.oa_turn.proofs.Releases.{is_planned}
use Rattle.oa_turn.proofs.host.Machine.plan_other.Goals as goal

pub returns-in-Change-clause-plans : goal.returns-in-Change-clause-plans
returns-in-Change-clause-plans c =
    let drafts = c.in-Change.ensures.drafts in
    let change = c.in-Change.field-0 in
    let told = rw drafts.2 at c.plan_change.ensures in
    rw drafts.2 (change_planned c.args.self.now c.args.body.now drafts.0.request change.event change.fields c.plan_change.result drafts.0.asked
    drafts.0.decided_is drafts.1 (rw drafts.0.tag at told))

pub returns-in-Change-clause-quiet : goal.returns-in-Change-clause-quiet
returns-in-Change-clause-quiet c =
    let drafts = c.in-Change.ensures.drafts in
    let change = c.in-Change.field-0 in
    change_eventless c.args.self.now c.args.body.now c.one_request.ensures drafts.0.request drafts.0.asked change.tag change.event change.fields
    c.plan_change.result drafts.0.decided_is (rw drafts.2 at c.plan_change.ensures)

pub returns-in-Change-clause-released : goal.returns-in-Change-clause-released
returns-in-Change-clause-released c =
    let drafts = c.in-Change.ensures.drafts in
    let change = c.in-Change.field-0 in
    is_planned c.args.body.now c.one_request.ensures c.args.self.now drafts.0.request drafts.0.asked change.tag change.event change.fields c.plan_change.result
    drafts.0.decided_is (rw drafts.2 at c.plan_change.ensures)
