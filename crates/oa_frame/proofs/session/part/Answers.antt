use Rattle.oa_frame.specs.promise.Framings.{frames}
use Rattle.oa_frame.proofs.Sessions.{parted_on}
use Rattle.oa_frame.proofs.session.part.Goals as goal

pub returns-clause-parts : goal.returns-clause-parts
returns-clause-parts g c = parted_on (frames c.args.framing) _ _ c.deliver.result _ _ _ _ _ c.in_ok-flush_held.ensures.finishes c.deliver.ensures
