use Rattle.std.proofs.Common.{◌≡◌, map, take}
use Rattle.oa_model.specs.promise.Folding.{folded_name}
use Rattle.oa_sema.proofs.checks.all_folded.Given as goal

abbrev pub invariant-loop-name : goal.invariant-loop-name
invariant-loop-name l = map (λ k. k.items) l.keys.items ≡ map (λ n. folded_name n.now) (take l.name-index l.names)
