use Rattle.std.proofs.Common.{◌<◌, length, arith, refl}
use Rattle.oa_ordered.proofs.Places.{found_at}
use Rattle.oa_ordered.proofs.row.place_in_near.Goals as goal

pub returns-in-Equal-clause-found : goal.returns-in-Equal-clause-found
returns-in-Equal-clause-found g c =
    let lt : c.args.near < length c.args.entries.now = omega (arith, c.if-near-entries.true) in
    found_at g.K.Ord.cmp g.met.K.Ord.total c.args.key.now c.args.entries.now c.requires c.args.near lt _ c.index-entries-near.result refl c.in-Equal.ensures
