use Rattle.std.proofs.Common.{[], inl, refl}
use Rattle.oa_frame.specs.declared.ends.End.TheVariants.{Closed}
use Rattle.oa_gateway.proofs.laws.requests_ask_their_bodies.Goals as goal

pub returns : goal.returns
returns c = λ bytes bodies r. c.each_is_a_session.ensures.reads bytes [] bodies Closed ([], r, inl (refl, refl)) (λ e. cc)
