use Rattle.std.proofs.Common.{ap}
use Rattle.oa_variant.specs.declared.variant.Variant.TheVariants as variants
use Rattle.oa_table.proofs.Arrays.{element_is, element_refused}
use Rattle.oa_table.proofs.value.put_into.Goals as goal

pub returns-in-Ok-clause-does : goal.returns-in-Ok-clause-does
returns-in-Ok-clause-does c =
    let h = c.in-Ok.ensures in
    rw h.3 (element_is c.args.array.now c.args.index.now c.args.element c.fits-fits.result (rw c.elem.ensures at c.fits-fits.ensures.test)
    (rw c.elem.ensures at c.fits-fits.ensures.fits) h.0 h.1)

pub returns-clause-does : goal.returns-clause-does
returns-clause-does c =
    let h = c.in-Err.ensures in (
      h.0,
      ap (λ a. variants.Array a) h.2,
      element_refused c.args.array.now c.args.index.now c.args.element c.fits-fits.result
          (rw c.elem.ensures at c.fits-fits.ensures.test) (rw c.elem.ensures at c.fits-fits.ensures.fits) c.in-Err.fault h.1,
    )
