use Rattle.std.proofs.Common.{slice_get, ap, sym, ◌∙◌, true, false}
use Rattle.std.specs.Option.{option_and_then}
use Rattle.oa_sema.specs.promise.Libraries.{as_class, if_entered}
use Rattle.oa_typelib.proofs.Finds.{chosen, never}
use Rattle.oa_typelib.proofs.library.Library.entered_at.Goals as goal

pub returns-in_err-found : goal.returns-in_err-found
returns-in_err-found c =
    let k = option_and_then as_class (slice_get c.args.self.now.items c.args.class) in
    c.from_residual.ensures ∙ never k ∙ ap (λ o. option_and_then (λ d. option_and_then (if_entered d) o) k) c.in_err-found.ensures

pub returns-then-enters : goal.returns-then-enters
returns-then-enters c = chosen c.args.self.now.items c.args.class c.args.place c.in_ok-found.found true c.in_ok-found.ensures
    (sym c.if-enters.true ∙ c.enters.ensures)

pub returns-else-enters : goal.returns-else-enters
returns-else-enters c = chosen c.args.self.now.items c.args.class c.args.place c.in_ok-found.found false c.in_ok-found.ensures
    (sym c.if-enters.false ∙ c.enters.ensures)
