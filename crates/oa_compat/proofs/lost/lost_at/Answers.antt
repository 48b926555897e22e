use Rattle.std.proofs.Common.{get_or, sym, ◌∙◌}
use Rattle.std.proofs.lemmas.List.{get_or_default}
use Rattle.oa_compat.specs.Keeps.{lost_form}
use Rattle.oa_sema.specs.promise.Repeats.{first_answer}
use Rattle.oa_compat.proofs.Searches.{each_found, each_on, each_done}
use Rattle.oa_compat.proofs.lost.lost_at.Goals as goal

pub returns-then-is_some : goal.returns-then-is_some
returns-then-is_some c =
    let f = lost_form c.args.now.now c.args.was.now c.args.puts in
    let x = get_or c.args.places.now c.places.place-index 0 in
    each_found f c.args.places.now c.places.place-index (first_answer f c.args.places.now) x c.lost_form-lost.result c.places-test.true
    (get_or_default c.args.places.now c.places.place-index 0 x c.places-test.true) c.places.invariant c.lost_form-lost.ensures
    (sym c.is_some.ensures ∙ c.if-is_some.true)

pub places-preserved : goal.places-preserved
places-preserved c =
    let f = lost_form c.args.now.now c.args.was.now c.args.puts in
    let x = get_or c.args.places.now c.places.place-index 0 in
    each_on f c.args.places.now c.places.place-index (first_answer f c.args.places.now) x c.lost_form-lost.result c.places-test.true
    (get_or_default c.args.places.now c.places.place-index 0 x c.places-test.true) c.places.invariant c.lost_form-lost.ensures
    (sym c.is_some.ensures ∙ c.if-is_some.false)

pub returns : goal.returns
returns c =
    let f = lost_form c.args.now.now c.args.was.now c.args.puts in
    each_done f c.args.places.now c.places.place-index (first_answer f c.args.places.now) c.places-test.false c.places.invariant
