use Rattle.std.proofs.Common.{IsOk, refl, rules}
use Rattle.oa_decision.specs.promise.Limits.{allowed}
use Rattle.oa_turn.proofs.Allowed.{changed}
use Rattle.oa_turn.proofs.Releases.{is_made, not_allowed}
use Rattle.oa_turn.proofs.changes.change.Goals as goal

pub returns-clause-change : goal.returns-clause-change
returns-clause-change c =
    let ok : IsOk (allowed c.args.bank c.args.event c.args.table.now) = search rules in
    changed c.args.bank c.args.event c.args.table.now c.apply.new.table _ c.apply.result c.map_err.result ok
    (rw c.into_event-2.ensures at c.apply.ensures.change) c.map_err.ensures.cases (λ e code h. search rules)

pub returns-then-surely_fits-clause-change : goal.returns-then-surely_fits-clause-change
returns-then-surely_fits-clause-change c = (rw c.into_event.ensures at c.change_within.ensures.change) c.args.bank (c.if-surely_fits.ensures.within refl)

pub returns-then-surely_fits-clause-sound : goal.returns-then-surely_fits-clause-sound
returns-then-surely_fits-clause-sound c = (rw c.into_event.ensures at c.change_within.ensures.sound) c.args.bank
    (c.if-surely_fits.ensures.within refl) c.requires.sound

pub returns-clause-released : goal.returns-clause-released
returns-clause-released c = λ number is.
    let ok : IsOk (allowed c.args.bank c.args.event c.args.table.now) = search rules in
    let starved = rw c.into_event-2.ensures at c.apply.ensures.starved in
    is_made _ c.apply.result c.map_err.result (rw is at (starved c.args.bank ok)) c.map_err.ensures.cases

pub returns-in-Some-clause-released : goal.returns-in-Some-clause-released
returns-in-Some-clause-released c = λ number is. not_allowed c.args.bank number c.args.table.now c.in-Some.code (rw is at c.in-Some.ensures)
