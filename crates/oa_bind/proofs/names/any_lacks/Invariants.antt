use Rattle.std.proofs.Common.{◌≡◌, drop}
use Rattle.oa_bind.specs.Given.{given_call}
use Rattle.oa_bind.specs.promise.Names.{lacks}
use Rattle.oa_bind.specs.promise.Refusals.{any_at}
use Rattle.oa_bind.proofs.names.any_lacks.Given as goal

abbrev pub invariant-parameters : goal.invariant-parameters
invariant-parameters l = any_at (lacks (given_call l.named l.arguments)) l.place (drop l.place l.parameters) ≡ any_at
    (lacks (given_call l.fn.named l.fn.arguments)) 0 l.fn.parameters
