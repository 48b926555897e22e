use Rattle.std.proofs.Common.{length, rules}
use Rattle.oa_journal.proofs.Applied.{all_bring_none, told}
use Rattle.oa_journal.proofs.groups.replay.Goals as goal

pub apply_all-requires : goal.apply_all-requires
apply_all-requires c = all_bring_none c.in_ok-events.events.items c.in_ok-events.ensures.row.are

pub returns : goal.returns
returns c = told (Unit {0}) _ c.apply_all.result c.map_err.result (length c.args.group.now) c.args.group.now c.in_ok-events.events.items c.args.table.now
    c.apply_all.new.table c.in_ok-events.ensures.row c.apply_all.ensures c.map_err.ensures.cases (λ e f is. search rules)
