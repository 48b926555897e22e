use Rattle.std.proofs.Common.{◌≡◌, map, take}
use Rattle.oa_typelib.specs.promise.Descriptions.{parameter_description}
use Rattle.oa_typelib.proofs.describe.parameters.Given as goal

abbrev pub invariant-parameters : goal.invariant-parameters
invariant-parameters l = l.all.items ≡ map parameter_description (take l.place l.parameters)
