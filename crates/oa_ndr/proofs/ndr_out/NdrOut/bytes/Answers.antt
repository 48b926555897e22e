use Rattle.std.proofs.Common.{rules}
use Rattle.oa_ndr.proofs.Keeping.{keeps_added}
use Rattle.oa_ndr.proofs.ndr_out.NdrOut.bytes.Goals as goal

pub returns-clause-kept : goal.returns-clause-kept
returns-clause-kept c =
    rw (← c.self.view_is)
    (keeps_added c.extend_from_slice.result c.self.inside.start c.self.inside.out.items c.extend_from_slice.new.self.items c.args.text.now (search rules)
    (search rules) (search rules))
