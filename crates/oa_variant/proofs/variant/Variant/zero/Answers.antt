use Rattle.std.proofs.Common.{ap, ◌∙◌, [], ◌∷◌}
use Rattle.oa_variant.proofs.Zeros.{no_cells}
use Rattle.oa_variant.specs.promise.Variants.{no_indices}
use Rattle.oa_variant.specs.promise.Scalars.{zero_of}
use Rattle.oa_variant.specs.declared.variant.Variant.TheVariants.{Array}
use Rattle.oa_variant.proofs.variant.Variant.zero.Goals as goal

pub returns-in-Ok-clause-value : goal.returns-in-Ok-clause-value
returns-in-Ok-clause-value c = rw c.in-Array.is (ap Array (c.in-Ok.ensures.1
    ∙ ap (λ cells. record { elem = c.in-Array.elem; bounds = no_indices ∷ []; cells = cells; locks = 0 }) (no_cells (zero_of c.in-Array.elem))))
