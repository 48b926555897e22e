use Rattle.std.proofs.Common.{take}
use Rattle.std.proofs.KnownBytes.{Consumes-kept}
use Rattle.oa_frame.proofs.Raws.{lost_part}
use Rattle.oa_frame.proofs.records.fill_up.Goals as goal

pub returns-in-Fault-clause-gets : goal.returns-in-Fault-clause-gets
returns-in-Fault-clause-gets g c = lost_part _ _ c.calls.out c.calls.at c.calls-test.true
    (Consumes-kept _ _ _ (take c.calls.at c.calls.out) c.calls.invariant.taken c.more.ensures.kept)
