use Rattle.std.proofs.Common.{◌≡◌, map, take}
use Rattle.oa_sema.specs.promise.Declarations.{of_property}
use Rattle.oa_sema.proofs.declaration.of_properties.Given as goal

abbrev pub invariant-loop-property : goal.invariant-loop-property
invariant-loop-property l = l.all.items ≡ map of_property (take l.property-index l.properties)
