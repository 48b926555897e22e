use Rattle.oa_mux.proofs.Tellings.{now_breaks, now_delivers}
use Rattle.oa_mux.proofs.serving.make_now.Goals as goal

pub returns-clause-now : goal.returns-clause-now
returns-clause-now g c = now_delivers g.S.SharedResponder.turn _ c.deliver.result _ _ _ _ _ (g.met.W.Sink.keeps _) c.in_ok-commit_now.ensures.answers
    c.deliver.ensures

pub returns-in_err-commit_now-clause-now : goal.returns-in_err-commit_now-clause-now
returns-in_err-commit_now-clause-now g c = now_breaks g.S.SharedResponder.turn c.from_residual.result _ _ _ _ _ c.from_residual.ensures.0
    (g.met.W.Sink.keeps _) c.in_err-commit_now.ensures.answers
