use Rattle.std.proofs.Common.{arith, ap, ◌≡◌, ◌<◌, length, drop, ◌-◌, ◌*◌, ◌/◌}
use Rattle.std.proofs.lemmas.List.{length-drop}
use Rattle.oa_ordered.proofs.Cut.{cut, cut_filled}
use Rattle.oa_ordered.proofs.rows.rows_of.Goals as goal

pub rows-preserved : goal.rows-preserved
rows-preserved g c =
    let at = (c.len-in-rows-2.result - 1) / 64 * 64 in
    let cuts : c.in_ok-row.row ≡ drop at c.rows.left = c.in_ok-row.ensures.ok in
    let some : 0 < length c.in_ok-row.row =
    omega (arith, ap length cuts, length-drop at c.rows.left, c.len-in-rows-2.ensures, c.len-in-rows.ensures, c.rows-test.true) in
    rw c.in_ok-push.ensures.items record {
      same = cut c.rows.rows.items c.rows.left c.split_off.new.self c.in_ok-row.row c.args.entries.items at c.in_ok-row.ensures.kept cuts c.rows.invariant.same;
      filled = cut_filled c.rows.rows.items c.in_ok-row.row some c.rows.invariant.filled;
    }
