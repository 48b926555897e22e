use Rattle.std.proofs.Common.{◌≡◌, drop}
use Rattle.oa_sema.specs.promise.Breaches.{in_interface}
use Rattle.oa_sema.specs.MemberChecks.{breach_by}
use Rattle.oa_sema.specs.promise.Repeats.{first_answer}
use Rattle.oa_sema.proofs.member_checks.check_members.Given as goal

abbrev pub invariant-loop-item : goal.invariant-loop-item
invariant-loop-item l = first_answer (in_interface (breach_by l.fn.check)) l.items ≡ first_answer (in_interface (breach_by l.fn.check))
    (drop l.item-index l.items)
