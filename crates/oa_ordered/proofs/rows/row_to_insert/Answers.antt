use Rattle.std.proofs.Common.{◌-◌, ◌<◌, length, arith}
use Rattle.std.proofs.lemmas.List.{drop_all}
use Rattle.oa_ordered.proofs.Places.{row_for_all, rows_below}
use Rattle.oa_ordered.proofs.rows.row_to_insert.Goals as goal

pub returns-then-not-begins_after : goal.returns-then-not-begins_after
returns-then-not-begins_after g c =
    let rows = c.args.rows.now in
    let lt : length rows - 1 < length rows = omega (arith, c.if-behind-gt0.true) in
    row_for_all g.K.Ord.cmp g.met.K.Ord.total c.args.key.now rows (length rows - 1) (length rows) (record {
      rises = omega arith;
      one = λ some. lt;
      inside = omega arith;
      below = rows_below g.K.Ord.cmp g.met.K.Ord.total c.args.key.now rows c.requires.ordered
          (length rows - 1) lt c.index-rows-behind.result c.index-rows-behind.result c.index-rows-behind.is c.requires.filled c.if-not-begins_after.ensures;
      above = rw (drop_all (length rows) rows (omega arith)) tt;
    }) (omega arith)
