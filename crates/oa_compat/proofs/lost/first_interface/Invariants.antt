use Rattle.std.proofs.Common.{◌≡◌, drop}
use Rattle.oa_typelib.specs.promise.Descriptions.{interfaces_of}
use Rattle.oa_compat.specs.promise.Keeps.{lost_interface}
use Rattle.oa_sema.specs.promise.Repeats.{first_answer}
use Rattle.oa_compat.proofs.lost.first_interface.Given as goal

abbrev pub invariant-items : goal.invariant-items
invariant-items l = first_answer (lost_interface l.fn.new) (interfaces_of (drop l.place l.fn.old.items)) ≡ first_answer (lost_interface l.fn.new)
    (interfaces_of l.fn.old.items)
