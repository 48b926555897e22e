use Rattle.std.proofs.Common.{arith}
use Rattle.std.proofs.lemmas.Grind.{common_steps}
use Rattle.oa_typelib.proofs.describe.parameters.Goals as goal

pub parameters-preserved : goal.parameters-preserved
parameters-preserved c = grind (arith, common_steps)
