use Rattle.std.proofs.Common.{◌≡◌, drop}
use Rattle.oa_sema.specs.promise.Breaches.{bad_default_in}
use Rattle.oa_sema.specs.promise.Repeats.{first_answer}
use Rattle.oa_sema.proofs.member_checks.first_bad_default.Given as goal

abbrev pub invariant-loop-declaration : goal.invariant-loop-declaration
invariant-loop-declaration l = first_answer bad_default_in l.all ≡ first_answer bad_default_in (drop l.declaration-index l.all)
