use Rattle.std.proofs.Common.{◌≡◌, map, take}
use Rattle.oa_model.specs.promise.Folding.{folded_name}
use Rattle.oa_sema.proofs.member_checks.folded_names.Given as goal

abbrev pub invariant-loop-declaration : goal.invariant-loop-declaration
invariant-loop-declaration l = map (λ k. k.items) l.keys.items ≡ map (λ d. folded_name d.name) (take l.declaration-index l.all)
