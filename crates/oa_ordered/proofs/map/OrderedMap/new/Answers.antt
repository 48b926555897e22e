use Rattle.oa_ordered.proofs.Counted.{no_map}
use Rattle.oa_ordered.proofs.map.OrderedMap.new.Goals as goal

pub invariant_of-result : goal.invariant_of-result
invariant_of-result g c = rw c.new.ensures (no_map g.K.Ord.cmp)
