use Rattle.oa_history.proofs.Framed.{makes_calls}
use Rattle.oa_history.proofs.streaming.framed.Goals as goal

pub returns-clause-written : goal.returns-clause-written
returns-clause-written c =
    makes_calls c.turns_are_calls.ensures c.args.input.now c.as_slice.result c.in_ok-reader.reader c.new-output.result c.serve_shared.new.writer c.in_ok-why.why
    c.args.server.now c.serve_shared.new.self _
    c.as_slice.ensures.value c.in_ok-reader.ensures.0 c.in_ok-reader.ensures.1 (rw c.new-output.ensures.bytes c.new-2.ensures.items) c.in_ok-why.ensures.session
