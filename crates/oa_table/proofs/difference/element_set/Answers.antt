use Rattle.std.proofs.Common.{◌≡◌, true, sym, ◌∙◌, arith}
use Rattle.oa_variant.specs.promise.Scalars.{fits_type}
use Rattle.oa_table.proofs.Sums.{element_due, outside_due}
use Rattle.oa_table.proofs.difference.element_set.Goals as goal

pub returns-else-not-fits-clause-size : goal.returns-else-not-fits-clause-size
returns-else-not-fits-clause-size c =
    let a = c.args.array.now in
    let fits : fits_type c.args.element.now a.elem ≡ true = rw c.elem-elem.ensures at (sym c.fits-fits.ensures.test) ∙ c.if-not-fits.false in
    let due = element_due a c.args.index.now c.in-Ok.old.now c.args.element.now c.in-Ok.ensures.0 c.in-Ok.ensures.1 fits in
    rw (c.element_len.ensures.value, c.element_len-in-Ok.ensures.value, c.elem-elem.ensures) due

pub returns-in-Err-clause-size : goal.returns-in-Err-clause-size
returns-in-Err-clause-size c =
    rw (c.no_difference-in-Err.ensures.gone, c.no_difference-in-Err.ensures.come)
    (omega (arith, outside_due c.args.array.now c.args.index.now c.args.element.now c.in-Err.ensures.0))
