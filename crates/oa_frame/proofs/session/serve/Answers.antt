use Rattle.std.proofs.Common.{rules, refl, inl, inr, ◌≡◌, arith}
use Rattle.oa_model.specs.promise.Limits.{max_records}
use Rattle.oa_frame.specs.promise.Framings.{frames}
use Rattle.oa_frame.proofs.Sessions.{going_start, going_on, going_fails, going_undone, going_waits, going_closes, known_over, sound_end, can_over}
use Rattle.oa_frame.proofs.Sessions.{writes_none, no_call, stepped}
use Rattle.oa_frame.proofs.session.serve.Goals as goal

pub turns-init : goal.turns-init
turns-init g c = record {
  room = c.requires.buffers.line_places;
  buffer = c.requires.buffers.body_places;
  count = refl;
  ready = c.requires.ready;
  unbroken = c.requires.unbroken.reader;
  unbroken_writer = c.requires.unbroken.writer;
  steady = λ s. s;
  going = going_start (frames c.args.framing) g.S.Responder.barrier _ _ _ _ c.requires.unbroken.writer;
}

pub returns-in-Err-Answered : goal.returns-in-Err-Answered
returns-in-Err-Answered g c =
    let a = stepped (frames c.args.framing) g.S.Responder.barrier g.S.Responder.turn g.S.Responder.ends _ _ _ _ _ _
    (rw c.in-Err-Answered.field-0-is at c.in-Err-Answered.ensures.answers).1 in
    let read = c.in-Body.ensures in
    let input = rw (← c.deref.ensures.value, ← c.body_in-bytes.ensures) at read.input in
    going_fails (frames c.args.framing) _ _ _ c.args.last.now _ _ _ _ _ _ _ c.turns.requests c.turns.invariant.going _ _ _ _ _ a.answers.replies _ input
    read.paced a.answers.turned read.output.keeps (g.met.W.Sink.keeps _) a.answers.put a.own c.drop_held.ensures.ended

pub returns-in-Err-Undone : goal.returns-in-Err-Undone
returns-in-Err-Undone g c =
    let undone = rw c.in-Err-Undone.field-0-is at c.in-Err-Undone.ensures.answers in
    let read = c.in-Body.ensures in
    let input = rw (← c.deref.ensures.value, ← c.body_in-bytes.ensures) at read.input in
    going_undone (frames c.args.framing) _ _ _ c.args.last.now _ _ _ _ _ _ _ c.turns.requests c.turns.invariant.going _ _ _ _ _ undone.0 undone.1.1 input
    read.paced read.output.keeps (g.met.W.Sink.keeps _)

pub returns-in-Ends : goal.returns-in-Ends
returns-in-Ends g c =
    let read = c.in-Ends.ensures in
    going_closes (frames c.args.framing) _ _ _ c.args.last.now _ _ _ _ _ _ _ c.turns.requests c.turns.invariant.going _ _ _ c.close-why.result c.in-Ends.end
    read.paced.tries read.input.0 read.input.1 read.paced.most read.paced.clock (inl read.paced.cause)
    (λ s. sound_end c.in-Ends.end c.turns.requests (read.paced.on (c.turns.invariant.steady s)).0) read.output.keeps (g.met.W.Sink.keeps _) c.close-why.ensures

pub returns-in-Unwritten : goal.returns-in-Unwritten
returns-in-Unwritten g c =
    let read = c.in-Unwritten.ensures in
    going_waits (frames c.args.framing) _ _ _ c.args.last.now _ _ _ _ _ _ _ c.turns.requests c.turns.invariant.going _ _ _ read.input read.paced
    (g.met.W.Sink.keeps _) read.output.0 c.drop_held-in-Unwritten.ensures.ended

pub turns-preserved : goal.turns-preserved
turns-preserved g c =
    let a = stepped (frames c.args.framing) g.S.Responder.barrier g.S.Responder.turn g.S.Responder.ends _ _ _ _ _ _ c.in-Ok.ensures.answers in
    let read = c.in-Body.ensures in
    let input = rw (← c.deref.ensures.value, ← c.body_in-bytes.ensures) at read.input in
    record {
      room = search rules;
      buffer = search rules;
      count = search rules;
      ready = c.in-Ok.ensures.ready;
      unbroken = read.paced.cause;
      unbroken_writer = a.answers.put.sound;
      steady = λ s. (read.paced.on (c.turns.invariant.steady s)).1;
      going = going_on (frames c.args.framing) g.S.Responder.barrier _ g.S.Responder.ends c.args.last.now _ _ _ _ _ _ _ c.turns.requests c.turns.invariant.going
          _ _ _ _ a.answers.replies input read.paced a.answers.turned read.output.keeps a.answers.put a.own;
    }

pub returns : goal.returns
returns g c =
    let used_up : c.turns.requests ≡ max_records = search rules in
    going_closes (frames c.args.framing) _ _ _ c.args.last.now _ _ _ _ _ _ _ c.turns.requests c.turns.invariant.going _ _ _ c.close-why-2.result _ 0
    (can_over c.args.framing c.turns.requests) (known_over c.args.framing _) (omega arith) (no_call _) (inr used_up) (λ _ _. used_up)
    (writes_none _ c.turns.invariant.unbroken_writer) (g.met.W.Sink.keeps _) c.close-why-2.ensures
