use Rattle.std.proofs.Common.{ap}
use Rattle.oa_variant.specs.promise.Scalars.{type_of}
use Rattle.oa_variant.specs.declared.variant.Variant.TheVariants.{One}
use Rattle.oa_coerce.specs.promise.Coercions.{rule_for}
use Rattle.oa_coerce.proofs.Lifted.{lifted, refused_too}
use Rattle.oa_coerce.proofs.values.other_value.Goals as goal

pub returns-in-Ok-clause-made : goal.returns-in-Ok-clause-made
returns-in-Ok-clause-made c = rw (c.in-One.is, c.in-One-declared.is)
    (lifted (rule_for (type_of c.in-One.scalar) c.in-One-declared.to) c.in-One.scalar c.in-One-declared.to c.in-Ok.made c.in-Ok.ensures.made)

pub returns-in-Err-clause-refused : goal.returns-in-Err-clause-refused
returns-in-Err-clause-refused c = rw (c.in-One.is, c.in-One-declared.is)
    (ap One c.in-Err.ensures.refused.0, refused_too c.in-One.scalar c.in-One-declared.to c.in-Err.fault c.in-Err.ensures.refused.1)
