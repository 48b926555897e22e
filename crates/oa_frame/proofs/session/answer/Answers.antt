use Rattle.std.proofs.Common.{rules}
use Rattle.oa_frame.specs.promise.Framings.{frames}
use Rattle.oa_frame.proofs.Sessions.{next_apart}
use Rattle.oa_frame.proofs.session.answer.Goals as goal

pub returns-then-is_barrier-clause-answers : goal.returns-then-is_barrier-clause-answers
returns-then-is_barrier-clause-answers g c =
    next_apart (frames c.args.framing) g.S.Responder.barrier _ g.S.Responder.ends c.respond_barrier.result c.map_err.result _ _ _ _ _
    (search rules) c.map_err.ensures.variant (λ l is. search (rules, is))
    (record { mid = _; between = _; parted = c.in_default.ensures.parts; own = c.respond_barrier.ensures.answers })
