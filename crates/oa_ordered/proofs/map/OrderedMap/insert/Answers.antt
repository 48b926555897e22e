use Rattle.std.proofs.Common.{◌≡◌, ◌∙◌, ◌<◌, ◌-◌, ◌^◌, None, length, refl, sym, ap, arith}
use Rattle.std.specs.Map.{lookup}
use Rattle.std.specs.BTreeMap.{is_at}
use Rattle.oa_ordered.specs.Roots.{entries_of}
use Rattle.oa_ordered.proofs.Counted.{map_changed, map_inserted, none_if, some_if}
use Rattle.oa_ordered.proofs.map.OrderedMap.insert.Goals as goal

pub invariant_of-self-then-is_none : goal.invariant_of-self-then-is_none
invariant_of-self-then-is_none g c =
    let root = c.self.inside.root in
    let old = c.in_ok-old.old in
    let absent : lookup (is_at (g.K.Ord.cmp c.args.key)) (entries_of root) ≡ None = sym c.in_ok-old.ensures.old ∙ none_if old c.if-is_none.ensures in
    let room : length c.args.self.now < 2 ^ 63 - 1 =
    c.if-not-has_room_for.ensures.room refl (ap (lookup (is_at (g.K.Ord.cmp c.args.key))) (sym c.self.view_is) ∙ absent) in
    let most : c.self.inside.len < 2 ^ 63 - 1 = omega (arith, room, c.self.invariant.count, ap length c.self.view_is) in
    map_inserted g.K.Ord.cmp g.met.K.Ord.total c.args.key root c.insert.new.self c.self.inside.len c.self.invariant c.insert.ensures.filled c.args.value most
    c.in_ok-old.ensures.entries absent

pub invariant_of-self-else-is_none : goal.invariant_of-self-else-is_none
invariant_of-self-else-is_none g c =
    let root = c.self.inside.root in
    let there = some_if c.in_ok-old.old c.if-is_none.ensures in
    map_changed g.K.Ord.cmp g.met.K.Ord.total c.args.key root c.insert.new.self c.self.inside.len c.self.invariant c.insert.ensures.filled c.args.value there.0
    c.in_ok-old.ensures.entries (sym c.in_ok-old.ensures.old ∙ there.1)
