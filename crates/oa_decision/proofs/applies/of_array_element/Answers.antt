use Rattle.std.proofs.Common.{true≢false, sym, ◌∙◌, refl}
use Rattle.oa_array.specs.declared.fault.ArrayFault.TheVariants as arrays
use Rattle.oa_table.proofs.Arrays.{element_is, element_refused}
use Rattle.oa_decision.proofs.applies.of_array_element.Goals as goal

pub returns-in-Err : goal.returns-in-Err
returns-in-Err c =
    element_refused c.args.array.now c.args.index.now c.args.element.now c.fits-fits.result (rw c.elem.ensures at c.fits-fits.ensures.test)
    (rw c.elem.ensures at c.fits-fits.ensures.fits) arrays.BadIndex c.in-Err.ensures.0

pub returns-then-fits : goal.returns-then-fits
returns-then-fits c =
    rw (element_is c.args.array.now c.args.index.now c.args.element.now c.fits-fits.result (rw c.elem.ensures at c.fits-fits.ensures.test)
    (rw c.elem.ensures at c.fits-fits.ensures.fits) c.in-Ok.ensures.0
    ((rw c.elem.ensures at c.fits-fits.ensures.fits).0 c.if-fits.true)) refl

pub returns-else-fits : goal.returns-else-fits
returns-else-fits c =
    element_refused c.args.array.now c.args.index.now c.args.element.now c.fits-fits.result (rw c.elem.ensures at c.fits-fits.ensures.test)
    (rw c.elem.ensures at c.fits-fits.ensures.fits) arrays.TypeMismatch
    (c.in-Ok.ensures.0, λ fits. true≢false (sym ((rw c.elem.ensures at c.fits-fits.ensures.fits).1 fits) ∙ c.if-fits.false))
