use Rattle.std.proofs.Common.{◌∙◌, sym}
use Rattle.oa_ordered.specs.Roots.{entries_of}
use Rattle.oa_ordered.proofs.Counted.{map_removed, map_same, remove_none}
use Rattle.oa_ordered.proofs.map.OrderedMap.remove.Goals as goal

pub invariant_of-self : goal.invariant_of-self
invariant_of-self g c =
    map_same g.K.Ord.cmp g.met.K.Ord.total c.args.key.now c.self.inside.root c.remove.new.self c.self.inside.len c.self.invariant c.remove.ensures.filled
    (c.remove.ensures.entries ∙ remove_none g.K.Ord.cmp g.met.K.Ord.total c.args.key.now (entries_of c.self.inside.root) (sym c.in_err-value.ensures.value))

pub invariant_of-self-2 : goal.invariant_of-self-2
invariant_of-self-2 g c =
    map_removed g.K.Ord.cmp g.met.K.Ord.total c.args.key.now c.self.inside.root c.remove.new.self c.self.inside.len c.self.invariant c.remove.ensures.filled
    c.in_ok-value.value c.remove.ensures.entries (sym c.in_ok-value.ensures.value)
