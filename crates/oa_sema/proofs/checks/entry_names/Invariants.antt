use Rattle.std.proofs.Common.{◌≡◌, map, take}
use Rattle.oa_sema.proofs.checks.entry_names.Given as goal

abbrev pub invariant-loop-entry : goal.invariant-loop-entry
invariant-loop-entry l = map (λ n. n.now) l.names.items ≡ map (λ p. p.interface) (take l.entry-index l.entries)
