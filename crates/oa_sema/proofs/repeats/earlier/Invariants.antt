use Rattle.std.proofs.Common.{◌≡◌, List, [], ◌++◌, length}
use Rattle.std.specs.Vec.Iter.{into_iter_items, into_iter_len}
use Rattle.indexmap.specs.IndexMap.{get}
use Rattle.oa_sema.specs.Repeats.{last_place, places_before}
use Rattle.oa_sema.proofs.repeats.earlier.Given as goal

-- the keys that were gone over are those before the ones left
abbrev pub invariant-loop-key : goal.invariant-loop-key
invariant-loop-key g l =
    (goal.iterator-loop-key g).can_next l.key-iterator ×
    (goal.iterator-loop-key g).is_finite l.key-iterator ×
    (into_iter_len l.key-iterator ≡ length (into_iter_items l.key-iterator)) ×
    ((done : List _) ×
    (l.fn.keys.items ≡ done ++ into_iter_items l.key-iterator) ×
    (l.places.items ≡ places_before g.K.PartialEq.eq [] done) ×
    ((q : _) → get g.K.PartialEq.eq l.last q ≡ last_place (λ k. g.K.PartialEq.eq k q) done))
