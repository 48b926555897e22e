use Rattle.std.proofs.Common.{arith}
use Rattle.oa_journal.specs.declared.shape.BankFormat.TheVariants.{One, Two}
use Rattle.oa_journal.proofs.head.told_shape.Goals as goal

pub returns-clause-none : goal.returns-clause-none
returns-clause-none c e One known format size = omega (arith, format, size, c.else-format-eq1.either)
returns-clause-none c e (Two bytes) known format size = omega (arith, known, format, size, c.else-format-eq2.either)
