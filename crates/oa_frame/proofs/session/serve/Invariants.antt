use Rattle.std.proofs.Common.{◌≡◌, ◌+◌, ◌≤◌, true, false}
use Rattle.std.specs.Prelude.{vec_capacity}
use Rattle.oa_model.specs.promise.Limits.{max_request_bytes, max_line_characters}
use Rattle.oa_stream.specs.BufferedSource.{ahead}
use Rattle.oa_frame.specs.promise.Framings.{frames}
use Rattle.oa_frame.specs.Sessions.{step}
use Rattle.oa_frame.proofs.Sessions.{SessionSoFar}
use Rattle.oa_frame.proofs.session.serve.Given as goal

abbrev pub invariant-turns : goal.invariant-turns
invariant-turns g l = record {
  room : max_line_characters + 1 ≤ vec_capacity l.line;
  buffer : max_request_bytes ≤ vec_capacity l.body;
  count : l.requests ≡ l.counter;
  ready : g.S.Responder.ready l.server;
  unbroken : (ahead g.R.Source.input l.reader).faulted ≡ false;
  unbroken_writer : (g.W.Sink.out l.writer).broken ≡ false;
  steady : (ahead g.R.Source.input l.fn.reader).steady ≡ true → (ahead g.R.Source.input l.reader).steady ≡ true;
  going : SessionSoFar (frames l.framing) g.S.Responder.barrier (step g.S.Responder.barrier g.S.Responder.turn g.S.Responder.ends)
      (ahead g.R.Source.input l.fn.reader) (ahead g.R.Source.input l.reader) (g.W.Sink.out l.fn.writer) (g.W.Sink.out l.writer) l.fn.server l.server l.requests;
}
