use Rattle.std.proofs.Common.{◌≡◌, drop}
use Rattle.oa_compat.specs.Keeps.{lost_form}
use Rattle.oa_sema.specs.promise.Repeats.{first_answer}
use Rattle.oa_compat.proofs.lost.lost_at.Given as goal

abbrev pub invariant-places : goal.invariant-places
invariant-places l =
    first_answer (lost_form l.fn.now l.fn.was l.fn.puts) (drop l.place-index l.fn.places) ≡ first_answer (lost_form l.fn.now l.fn.was l.fn.puts) l.fn.places
