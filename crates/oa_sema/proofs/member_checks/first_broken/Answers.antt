use Rattle.std.proofs.Common.{Some, sym, ap, ◌∙◌}
use Rattle.oa_sema.specs.promise.DeclarationValues.{DeclarationValue}
use Rattle.oa_sema.specs.promise.Breaches.{broken_by}
use Rattle.oa_sema.specs.MemberChecks.{breaks}
use Rattle.oa_sema.proofs.Rules.{place_within, broken_here, unbroken_here, kept_here}
use Rattle.oa_sema.proofs.Walks.{after_found, after_on, after_done}
use Rattle.oa_sema.proofs.member_checks.first_broken.Goals as goal

pub bounds-before-place : goal.bounds-before-place
bounds-before-place c = place_within c.args.rule c.args.all.now c.args.before.now c.loop-place.place c.index-all-place.result c.requires c.loop-place-test.true
    c.index-all-place.is

pub returns-then-is_broken : goal.returns-then-is_broken
returns-then-is_broken c =
    let d = c.index-all-place.result in
    let i = c.loop-place.place in
    ap (λ (v : DeclarationValue). Some v.name) c.later.view_is
    ∙ sym (after_found (broken_by (breaks c.args.rule)) c.args.all.now i d d.name c.loop-place-test.true c.index-all-place.is c.loop-place.invariant.left
    (broken_here c.args.rule c.args.all.now c.args.before.now i d c.requires c.loop-place-test.true c.index-all-place.is c.loop-place.invariant.kept _
    c.is_broken.result c.is_broken.ensures c.if-is_broken.true))

pub loop-place-preserved : goal.loop-place-preserved
loop-place-preserved c =
    let d = c.index-all-place.result in
    let i = c.loop-place.place in
    let none = unbroken_here c.args.rule c.args.all.now c.args.before.now i d c.requires c.loop-place-test.true c.index-all-place.is c.loop-place.invariant.kept
    _ c.is_broken.result c.is_broken.ensures c.if-is_broken.false in
    record {
      kept = kept_here c.args.rule c.args.all.now c.args.before.now i d c.requires c.loop-place-test.true c.index-all-place.is c.loop-place.invariant.kept none;
      left = after_on (broken_by (breaks c.args.rule)) c.args.all.now i d c.loop-place-test.true c.index-all-place.is c.loop-place.invariant.left none;
    }

pub returns : goal.returns
returns c = sym (after_done (broken_by (breaks c.args.rule)) c.args.all.now c.loop-place.place c.loop-place-test.false c.loop-place.invariant.left)
