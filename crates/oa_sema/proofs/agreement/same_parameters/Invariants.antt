use Rattle.std.proofs.Common.{◌≡◌, drop}
use Rattle.std.specs.Cmp.Lexicographic.{pointwise}
use Rattle.oa_sema.specs.promise.Agreement.{same_parameter}
use Rattle.oa_sema.proofs.agreement.same_parameters.Given as goal

abbrev pub invariant-loop-place : goal.invariant-loop-place
invariant-loop-place l = pointwise same_parameter l.a l.b ≡ pointwise same_parameter (drop l.place l.a) (drop l.place l.b)
