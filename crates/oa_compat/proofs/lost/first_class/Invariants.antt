use Rattle.std.proofs.Common.{◌≡◌, drop}
use Rattle.oa_typelib.specs.promise.Descriptions.{classes_of}
use Rattle.oa_compat.specs.promise.Keeps.{lost_class}
use Rattle.oa_sema.specs.promise.Repeats.{first_answer}
use Rattle.oa_compat.proofs.lost.first_class.Given as goal

abbrev pub invariant-items : goal.invariant-items
invariant-items l = first_answer (lost_class l.fn.new l.fn.old) (classes_of (drop l.place l.fn.old.items)) ≡ first_answer (lost_class l.fn.new l.fn.old)
    (classes_of l.fn.old.items)
