use Rattle.std.proofs.Common.{◌≡◌, map, take}
use Rattle.oa_sema.proofs.checks.parameter_names.Given as goal

abbrev pub invariant-loop-parameter : goal.invariant-loop-parameter
invariant-loop-parameter l = map (λ n. n.now) l.names.items ≡ map (λ p. p.name) (take l.parameter-index l.parameters)
