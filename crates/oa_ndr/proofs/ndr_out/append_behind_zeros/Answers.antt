use Rattle.std.proofs.Common.{rules, append_assoc, replicate}
use Rattle.oa_ndr.proofs.ndr_out.append_behind_zeros.Goals as goal

pub returns-clause-ok : goal.returns-clause-ok
returns-clause-ok g c = rw (← append_assoc c.args.out.now.items (replicate c.args.zeros 0) c.args.text.now) (search rules)
