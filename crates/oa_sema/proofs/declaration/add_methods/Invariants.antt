use Rattle.std.proofs.Common.{◌≡◌, ◌++◌, map, take}
use Rattle.oa_sema.specs.promise.Declarations.{of_method}
use Rattle.oa_sema.proofs.declaration.add_methods.Given as goal

abbrev pub invariant-loop-method : goal.invariant-loop-method
invariant-loop-method l = l.all.items ≡ l.fn.all.items ++ map of_method (take l.method-index l.methods)
