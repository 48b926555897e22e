use Rattle.std.proofs.Common.{◌∙◌, ap, sym, arith}
use Rattle.oa_sema.specs.promise.Libraries.{item_guid, same}
use Rattle.oa_sema.proofs.Fronts.{found_here, comes_later, not_in_front}
use Rattle.oa_sema.proofs.guids.place_in_front.Goals as goal

pub returns-then-is_same-clause-found : goal.returns-then-is_same-clause-found
returns-then-is_same-clause-found c =
    found_here (λ i. same c.args.guid.now (item_guid i)) c.args.items.now c.items.place c.index-items-place.result
    (omega (arith, c.items-test.true, c.min-place-end.ensures)) c.index-items-place.is
    (sym (ap (same c.args.guid.now) c.item_guid.ensures) ∙ sym c.is_same.ensures ∙ c.if-is_same.true) c.items.invariant

pub items-preserved : goal.items-preserved
items-preserved c =
    comes_later (λ i. same c.args.guid.now (item_guid i)) c.args.items.now c.items.place c.index-items-place.result
    (omega (arith, c.items-test.true, c.min-place-end.ensures)) c.index-items-place.is
    (sym (ap (same c.args.guid.now) c.item_guid.ensures) ∙ sym c.is_same.ensures ∙ c.if-is_same.false) c.items.invariant

pub returns-clause-none : goal.returns-clause-none
returns-clause-none c = not_in_front (λ i. same c.args.guid.now (item_guid i)) c.args.items.now 8
    (omega (arith, c.items.invariant, c.items-test.false, c.min-place-end.ensures))
