use Rattle.std.proofs.Common.{rules, length}
use Rattle.oa_server.proofs.Settled.{few_held}
use Rattle.oa_server.proofs.open_group.OpenGroup.is_full.Goals as goal

pub returns-clause-place : goal.returns-clause-place
returns-clause-place c short =
    let open_group = c.args.self.now in
    few_held open_group.size (length open_group.replies.items) (length open_group.batch) (search rules)
