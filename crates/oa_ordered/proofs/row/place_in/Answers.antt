use Rattle.std.proofs.Common.{◌+◌, ◌-◌, ◌/◌, ◌<◌, length, arith, refl}
use Rattle.oa_ordered.proofs.Places.{above_from, below_through, found_at}
use Rattle.oa_ordered.proofs.row.place_in.Goals as goal

pub halves-preserved-in-Less : goal.halves-preserved-in-Less
halves-preserved-in-Less g c =
    let i = c.halves.invariant in
    let test = c.halves-test.true in
    let lt : c.halves.low + (c.halves.high - c.halves.low) / 2 < length c.args.entries.now = omega (arith, i.inside, test) in
    record {
      middle = omega arith;
      inside = omega (arith, i.inside, test);
      below = i.below;
      above = above_from g.K.Ord.cmp g.met.K.Ord.total c.args.key.now c.args.entries.now c.requires _ lt _ c.index-entries-middle.result refl c.in-Less.ensures;
    }

pub returns-in-Equal-clause-found : goal.returns-in-Equal-clause-found
returns-in-Equal-clause-found g c =
    let lt : c.halves.low + (c.halves.high - c.halves.low) / 2 < length c.args.entries.now = omega (arith, c.halves.invariant.inside, c.halves-test.true) in
    found_at g.K.Ord.cmp g.met.K.Ord.total c.args.key.now c.args.entries.now c.requires _ lt _ c.index-entries-middle.result refl c.in-Equal.ensures

pub halves-preserved : goal.halves-preserved
halves-preserved g c =
    let i = c.halves.invariant in
    let test = c.halves-test.true in
    let lt : c.halves.low + (c.halves.high - c.halves.low) / 2 < length c.args.entries.now = omega (arith, i.inside, test) in
    record {
      middle = omega (arith, test);
      inside = i.inside;
      below = below_through g.K.Ord.cmp g.met.K.Ord.total c.args.key.now c.args.entries.now c.requires _ lt _ c.index-entries-middle.result refl
          c.in-Greater.ensures;
      above = i.above;
    }
