use Rattle.std.proofs.Common.{arith, rules}
use Rattle.oa_mux.proofs.Talks.{ends_all, ends_lost, ends_more, ends_start}
use Rattle.oa_mux.proofs.serving.end_all.Goals as goal

pub ends-init : goal.ends-init
ends-init g c = record {
  ready = c.requires.ready;
  unbroken = c.requires.unbroken;
  count = search rules;
  going = ends_start g.S.SharedResponder.barrier g.S.SharedResponder.turn _ _ _ c.requires.unbroken;
}

pub ends-preserved : goal.ends-preserved
ends-preserved g c =
    let ends = c.in_ok-end_next.ensures.ends in
    let one = ends.one in
    let all = c.ends.invariant.count in
    record {
      ready = c.in_ok-end_next.ensures.ready;
      unbroken = ends.answers.written.sound;
      count = omega (arith, one, all);
      going = ends_more g.S.SharedResponder.barrier g.S.SharedResponder.turn _ _ _ _ _ _ _ _ _ _ c.ends.invariant.going ends;
    }

pub returns-in_err-end_next-clause-ends : goal.returns-in_err-end_next-clause-ends
returns-in_err-end_next-clause-ends g c = ends_lost g.S.SharedResponder.barrier g.S.SharedResponder.turn c.from_residual.result _ _ _ _ _ _ _ _ _ _
    c.from_residual.ensures.0 c.ends.invariant.going c.in_err-end_next.ensures.ends

pub returns-clause-ends : goal.returns-clause-ends
returns-clause-ends g c = let all = c.ends.invariant.count in let over = c.ends-test.false in
    ends_all g.S.SharedResponder.barrier g.S.SharedResponder.turn _ _ _ _ _ _ (omega (arith, all, over)) c.ends.invariant.going
