use Rattle.std.proofs.Common.{rules, ◌++◌, replicate}
use Rattle.oa_ndr.proofs.Keeping.{keeps_added}
use Rattle.oa_ndr.proofs.ndr_out.NdrOut.slot.Goals as goal

pub returns-clause-kept : goal.returns-clause-kept
returns-clause-kept g c =
    rw (← c.self.view_is)
    (keeps_added c.append_behind_zeros.result c.self.inside.start c.self.inside.out.items c.append_behind_zeros.new.out.items
    (replicate c.padding-gap.result 0 ++ c.args.number.now)
    (search rules) c.append_behind_zeros.ensures.ok c.append_behind_zeros.ensures.err)
