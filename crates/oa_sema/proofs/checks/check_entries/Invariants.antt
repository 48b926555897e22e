use Rattle.std.proofs.Common.{◌≡◌, drop}
use Rattle.oa_sema.specs.promise.Breaches.{unknown_name}
use Rattle.oa_sema.specs.promise.Repeats.{first_answer}
use Rattle.oa_sema.proofs.checks.check_entries.Given as goal

abbrev pub invariant-loop-entry : goal.invariant-loop-entry
invariant-loop-entry l = first_answer (unknown_name l.items) l.entries ≡ first_answer (unknown_name l.items) (drop l.entry-index l.entries)
