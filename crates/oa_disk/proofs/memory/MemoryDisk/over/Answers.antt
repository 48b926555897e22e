use Rattle.oa_disk.proofs.Laid.{start_whole, start_settled}
use Rattle.oa_disk.proofs.memory.MemoryDisk.over.Goals as goal

pub invariant_of-result : goal.invariant_of-result
invariant_of-result c = record { whole = start_whole c.args.first c.in_ok-new.field-0 c.in_ok-new.ensures.calls_none c.in_ok-new.ensures.written_none }

pub returns-clause-settled : goal.returns-clause-settled
returns-clause-settled c = start_settled c.args.first c.in_ok-new.field-0 c.in_ok-new.ensures.calls_none c.in_ok-new.ensures.written_none
