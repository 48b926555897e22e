use Rattle.std.proofs.Common.{◌≡◌, drop}
use Rattle.oa_sema.specs.promise.Breaches.{entry_breach}
use Rattle.oa_sema.specs.promise.Repeats.{first_answer}
use Rattle.oa_sema.proofs.checks.check_interfaces.Given as goal

abbrev pub invariant-loop-item : goal.invariant-loop-item
invariant-loop-item l = first_answer (entry_breach l.items) l.items ≡ first_answer (entry_breach l.items) (drop l.item-index l.items)
