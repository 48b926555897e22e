use Rattle.std.proofs.Common.{◌<◌, [], length, slice_index_or, ap, arith}
use Rattle.oa_ordered.proofs.Joined.{halved, halved_filled, row_is}
use Rattle.oa_ordered.proofs.rows.split_long.Goals as goal

pub returns-clause-same : goal.returns-clause-same
returns-clause-same g c = halved c.args.rows.now.items c.split.new.rows.items c.args.row 32 c.requires.row c.in-Ok.ensures.ok

pub returns-clause-filled : goal.returns-clause-filled
returns-clause-filled g c =
    let rows = c.args.rows.now.items in
    let row = c.index.result.now in
    let same = ap length (row_is rows c.args.row row row c.requires.row c.index.ensures) in
    let long : 32 < length (slice_index_or rows c.args.row []) = omega (arith, same, c.len.ensures, c.if-len-le-FULL.false) in
    halved_filled rows c.split.new.rows.items c.args.row 32 c.requires.row (omega arith) long c.requires.filled c.in-Ok.ensures.ok
