use Rattle.std.proofs.Common.{◌≡◌, ℕ, map, take, None, Vec, Global}
use Rattle.oa_typelib.proofs.names.unknown.Given as goal

abbrev pub invariant-loop : goal.invariant-loop
invariant-loop l = l.ids.items ≡ map (λ name. None) (map (λ (n : Vec ℕ Global). n.items) (take l.index l.names))
