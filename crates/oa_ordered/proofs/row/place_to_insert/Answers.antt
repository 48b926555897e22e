use Rattle.std.proofs.Common.{◌≡◌, ◌+◌, ◌-◌, ◌<◌, length, take, refl, subst, arith}
use Rattle.std.proofs.lemmas.List.{drop_all}
use Rattle.oa_ordered.specs.Rows.{AllBelow}
use Rattle.oa_ordered.proofs.Places.{below_through}
use Rattle.oa_ordered.proofs.row.place_to_insert.Goals as goal

pub returns-in-Greater-clause-absent : goal.returns-in-Greater-clause-absent
returns-in-Greater-clause-absent g c =
    let es = c.args.entries.now in
    let lt : length es - 1 < length es = omega (arith, c.if-behind-gt0.true) in
    let all : length es - 1 + 1 ≡ length es = omega (arith, c.if-behind-gt0.true) in
    record {
      place = omega arith;
      below = subst (λ n. AllBelow g.K.Ord.cmp c.args.key.now (take n es)) all
          (below_through g.K.Ord.cmp g.met.K.Ord.total c.args.key.now es c.requires _ lt _ c.index-entries-behind.result refl c.in-Greater.ensures);
      above = rw (drop_all (length es) es (omega arith)) tt;
    }
