use Rattle.std.proofs.Common.{rules, ◌≡◌, ap, ◌∙◌}
use Rattle.oa_server.proofs.LocksBack.{counts_begin, taken_counts}
use Rattle.oa_server.proofs.locking.take_back_cells.Goals as goal

pub cells-init : goal.cells-init
cells-init c =
    let same : c.into_iter-cell-iterator.result ≡ c.counts-cell-items.result = search rules in
    ap (λ l. taken_counts l c.args.host.now) same ∙ counts_begin c.counts-cell-items.result c.args.cells.now c.args.host.now c.counts-cell-items.ensures
