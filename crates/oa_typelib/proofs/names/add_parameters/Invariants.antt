use Rattle.std.proofs.Common.{◌≡◌, ◌++◌, ℕ, map, take, Vec, Global}
use Rattle.oa_typelib.specs.promise.Names.{parameter_named}
use Rattle.oa_typelib.proofs.names.add_parameters.Given as goal

abbrev pub invariant-loop-name : goal.invariant-loop-name
invariant-loop-name l = l.ids.items ≡ l.fn.ids.items ++ map (λ (n : Vec ℕ Global). parameter_named l.parameters n.items) (take l.name-index l.names)
