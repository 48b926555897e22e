use Rattle.oa_mux.proofs.Talks.{far_lost, far_more, far_over, far_start, far_used, over_closes}
use Rattle.oa_mux.proofs.serving.serve_clients.Goals as goal

pub parts-init : goal.parts-init
parts-init g c = record {
  ready = c.requires.ready;
  unbroken = c.requires.unbroken.reader;
  unbroken_writer = c.requires.unbroken.writer;
  going = far_start g.S.SharedResponder.barrier g.S.SharedResponder.turn _ _ _ _ _ _ c.new-streams.ensures c.requires.unbroken.writer;
}

pub parts-preserved : goal.parts-preserved
parts-preserved g c =
    let part = c.in-Goes.ensures.progresses in
    record {
      ready = c.in-Goes.ensures.ready;
      unbroken = part.well;
      unbroken_writer = part.talks.told.written.sound;
      going = far_more g.S.SharedResponder.barrier g.S.SharedResponder.turn _ _ _ _ _ _ _ _ _ _ _ _ _ _ _ c.parts.invariant.going part;
    }

pub returns-in-Over-clause-serves : goal.returns-in-Over-clause-serves
returns-in-Over-clause-serves g c =
    over_closes g.S.SharedResponder.barrier g.S.SharedResponder.turn c.close.result c.in-Over.why _ _ _ _ _ _ _ _ _ _
    (far_over g.S.SharedResponder.barrier g.S.SharedResponder.turn _ _ _ _ _ _ _ _ _ _ _ _ _ _ _ c.parts.invariant.going c.in-Over.ensures.progresses)
    c.close.ensures.closes c.close.ensures.rise

pub returns-in-Unwritten-clause-serves : goal.returns-in-Unwritten-clause-serves
returns-in-Unwritten-clause-serves g c = far_lost g.S.SharedResponder.barrier g.S.SharedResponder.turn _ _ _ _ _ _ _ _ _ _ _ _ _ c.parts.invariant.going
    c.in-Unwritten.ensures.progresses

pub returns : goal.returns
returns g c = record {
  serves = far_used g.S.SharedResponder.barrier g.S.SharedResponder.turn c.close-2.result _ _ _ _ _ _ _ _ _ _ _ _ c.parts-test.false c.parts.invariant.unbroken
      c.parts.invariant.going c.close-2.ensures.closes c.close-2.ensures.rise;
  ready = c.close-2.ensures.ready;
}
