use Rattle.std.proofs.Common.{slice_get, drop, sym, ap, ◌∙◌}
use Rattle.oa_typelib.specs.promise.Descriptions.{interfaces_of}
use Rattle.oa_sema.specs.promise.Libraries.{as_interface}
use Rattle.oa_typelib.proofs.Kept.{nth_here}
use Rattle.oa_typelib.proofs.describe.nth_interface.Goals as goal

pub returns-then-left-eq0 : goal.returns-then-left-eq0
returns-then-left-eq0 c =
    nth_here as_interface c.args.items.now c.items.place c.index-items-place.result c.items-test.true c.index-items-place.is c.in-Interface.field-0
    (ap as_interface c.in-Interface.is)
    ∙ ap (slice_get (interfaces_of (drop c.items.place c.args.items.now))) (sym c.if-left-eq0.true)
    ∙ c.items.invariant
