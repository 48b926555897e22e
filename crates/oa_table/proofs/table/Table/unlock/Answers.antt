use Rattle.oa_table.proofs.Sums.{kept_unlocked}
use Rattle.oa_table.proofs.table.Table.unlock.Goals as goal

pub invariant_of-self : goal.invariant_of-self
invariant_of-self c = kept_unlocked c.args.name.now c.self.inside.objects c.unlock.new.self c.self.inside.size c.unlock.result c.self.invariant c.unlock.ensures
