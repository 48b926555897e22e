use Rattle.std.proofs.Common.{◌≡◌, ◌++◌, take}
use Rattle.std.specs.List.{flat_map}
use Rattle.oa_decision.specs.promise.DescriptionFields.{parameter_field}
use Rattle.oa_decision.proofs.description.put_parameters.Given as goal

abbrev pub invariant-parameters : goal.invariant-parameters
invariant-parameters l = l.out.items ≡ l.fn.out.items ++ flat_map parameter_field (take l.parameter-index l.parameters)
