use Rattle.std.proofs.Common.{inl, inr, refl}
use Rattle.oa_frame.proofs.Sessions.{writes_late, breaks_late}
use Rattle.oa_frame.proofs.session.hand_on.Goals as goal

pub returns-in-Err-deliver : goal.returns-in-Err-deliver
returns-in-Err-deliver g c = inr (refl, breaks_late _ _ _ _ c.in-Ok.ensures c.in-Err-deliver.ensures)

pub returns-in-Ok-deliver : goal.returns-in-Ok-deliver
returns-in-Ok-deliver g c = inl (refl, writes_late _ _ _ _ c.in-Ok.ensures c.in-Ok-deliver.ensures.0, c.in-Ok-deliver.ensures.1)
