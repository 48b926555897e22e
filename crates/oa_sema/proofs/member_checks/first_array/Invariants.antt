use Rattle.std.proofs.Common.{◌≡◌, drop}
use Rattle.oa_sema.specs.promise.Breaches.{first_array_parameter}
use Rattle.oa_sema.specs.promise.Repeats.{first_answer}
use Rattle.oa_sema.proofs.member_checks.first_array.Given as goal

abbrev pub invariant-loop-declaration : goal.invariant-loop-declaration
invariant-loop-declaration l = first_answer first_array_parameter l.all ≡ first_answer first_array_parameter (drop l.declaration-index l.all)
