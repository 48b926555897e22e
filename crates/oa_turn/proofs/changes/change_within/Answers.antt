use Rattle.std.proofs.Common.{sym, ◌∙◌}
use Rattle.oa_turn.proofs.Allowed.{allowed_sound, why_refused, within_allowed}
use Rattle.oa_turn.proofs.Releases.{not_starved}
use Rattle.oa_turn.proofs.changes.change_within.Goals as goal

pub returns-in-Err-clause-change : goal.returns-in-Err-clause-change
returns-in-Err-clause-change c bank within =
    let refused = c.in-Err.ensures.does in
    (refused.1, rw c.code.ensures (why_refused bank c.args.event c.args.table.now c.in-Err.fault within refused.2))

pub returns-clause-change : goal.returns-clause-change
returns-clause-change c bank within = within_allowed bank c.args.event c.args.table.now c.apply.new.self c.in_default.ensures.does
    (within c.apply.new.self c.in_default.ensures.does)

pub returns-clause-sound : goal.returns-clause-sound
returns-clause-sound c bank within sound =
    allowed_sound bank c.args.event c.args.table.now c.apply.new.self sound
    (within_allowed bank c.args.event c.args.table.now c.apply.new.self c.in_default.ensures.does (within c.apply.new.self c.in_default.ensures.does))

pub returns-in-Err-clause-released : goal.returns-in-Err-clause-released
returns-in-Err-clause-released c = λ number is code.
    not_starved number c.args.table.now c.in-Err.fault (rw is at c.in-Err.ensures.starved) (rw is at c.in-Err.ensures.does).2 (sym c.code.ensures ∙ code)
