use Rattle.std.proofs.Common.{◌≡◌, map, take}
use Rattle.oa_sema.specs.promise.Defaults.{default_value}
use Rattle.oa_typelib.proofs.members.values_of.Given as goal

abbrev pub invariant-loop-parameter : goal.invariant-loop-parameter
invariant-loop-parameter l = l.values.items ≡ map default_value (take l.parameter-index l.parameters)
