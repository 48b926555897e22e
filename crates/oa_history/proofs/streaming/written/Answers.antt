use Rattle.oa_frame.specs.declared.framing.Framing.TheVariants.{HexLines, Records}
use Rattle.oa_history.proofs.Streams.{has_written}
use Rattle.oa_history.proofs.streaming.written.Goals as goal
use Rattle.oa_history.proofs.streaming.written.Goals.{in-HexLines+in_ok-served-in-HexLines, in-Records+in_ok-served-in-Records}

pub returns-clause-written : goal.returns-clause-written
returns-clause-written c = elim c.match-input.branch [
  | in-HexLines+in_ok-served-in-HexLines w ↦
      rw (w.served-is, w.output-is, w.server-is)
      (has_written c.args.input.now HexLines c.as_slice.result c.in_ok-reader.reader c.new-output.result w.serve_hex.new.writer
      w.in_ok-served-in-HexLines.served c.args.server.now w.serve_hex.new.self _
      w.in-HexLines.is c.as_slice.ensures.value c.in_ok-reader.ensures.0 c.in_ok-reader.ensures.1 (rw c.new-output.ensures.bytes c.new-2.ensures.items)
      w.in_ok-served-in-HexLines.ensures.session)
  | in-Records+in_ok-served-in-Records w ↦
      rw (w.served-is, w.output-is, w.server-is)
      (has_written c.args.input.now Records c.as_slice.result c.in_ok-reader.reader c.new-output.result w.serve.new.writer w.in_ok-served-in-Records.served
      c.args.server.now w.serve.new.self _
      w.in-Records.is c.as_slice.ensures.value c.in_ok-reader.ensures.0 c.in_ok-reader.ensures.1 (rw c.new-output.ensures.bytes c.new-2.ensures.items)
      w.in_ok-served-in-Records.ensures.session)
]
