use Rattle.oa_turn.proofs.Allowed.{first_sound}
use Rattle.oa_turn.proofs.host.Machine.new.Goals as goal

pub invariant_of-result : goal.invariant_of-result
invariant_of-result c = rw c.new.ensures (first_sound c.args.bank c.requires)
