use Rattle.std.proofs.Common.{◌∙◌, ◌+◌, ◌<◌, length, ap, arith}
use Rattle.oa_ordered.specs.Rows.{concat_rows}
use Rattle.oa_ordered.proofs.Joined.{row_is, split_at}
use Rattle.oa_ordered.proofs.branches.split_branch.Goals as goal

pub returns-clause-same : goal.returns-clause-same
returns-clause-same g c =
    let roomy = c.make_room.new.items.items in
    let lt : c.args.branch < length roomy = rw c.make_room.ensures.items c.requires.branch in
    let read = c.index_mut.result.now in
    ap concat_rows c.in-Ok.ensures.items
    ∙ (split_at roomy c.args.branch (c.args.branch + 1) c.split_off.new.self c.in_ok-upper.upper (omega arith) lt
    (c.in_ok-upper.ensures.ok ∙ row_is roomy c.args.branch read read lt c.index_mut.ensures.value)
    ∙ ap concat_rows c.make_room.ensures.items)
