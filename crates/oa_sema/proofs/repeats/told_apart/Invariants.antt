use Rattle.std.proofs.Common.{◌≡◌, [], ◌++◌, length, None}
use Rattle.std.specs.Vec.Iter.{into_iter_items, into_iter_len}
use Rattle.oa_sema.specs.Repeats.{repeat_at}
use Rattle.oa_sema.proofs.repeats.told_apart.Given as goal

abbrev pub invariant-loop-key : goal.invariant-loop-key
invariant-loop-key g l =
    (goal.iterator-loop-key g).can_next l.key-iterator ×
    (goal.iterator-loop-key g).is_finite l.key-iterator ×
    (l.fn.keys.items ≡ l.seen.keys ++ into_iter_items l.key-iterator) ×
    (into_iter_len l.key-iterator ≡ length (into_iter_items l.key-iterator)) ×
    (repeat_at g.K.PartialEq.eq [] l.seen.keys ≡ None)
