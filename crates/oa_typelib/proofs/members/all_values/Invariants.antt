use Rattle.std.proofs.Common.{◌≡◌, map, take}
use Rattle.oa_sema.specs.Defaults.{defaults_of}
use Rattle.oa_typelib.proofs.members.all_values.Given as goal

abbrev pub invariant-loop-declaration : goal.invariant-loop-declaration
invariant-loop-declaration l = map (λ xs. xs.items) l.all.items ≡ map defaults_of (take l.declaration-index l.declarations)
