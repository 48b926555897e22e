use Rattle.std.proofs.Common.{◌≡◌, map, take}
use Rattle.oa_typelib.proofs.members.names_of.Given as goal

abbrev pub invariant-loop-declaration : goal.invariant-loop-declaration
invariant-loop-declaration l = map (λ n. n.now) l.names.items ≡ map (λ d. d.name) (take l.declaration-index l.declarations)
