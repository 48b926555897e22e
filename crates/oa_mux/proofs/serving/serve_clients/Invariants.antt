use Rattle.std.proofs.Common.{◌≡◌, false}
use Rattle.oa_stream.specs.BufferedSource.{ahead, read_ahead}
use Rattle.oa_mux.specs.promise.Shared.{starting}
use Rattle.oa_mux.proofs.Talks.{SharedSoFar}
use Rattle.oa_mux.proofs.serving.serve_clients.Given as goal

abbrev pub invariant-parts : goal.invariant-parts
invariant-parts g l = record {
  ready : g.S.SharedResponder.ready l.server;
  unbroken : (ahead g.R.Source.input l.reader).faulted ≡ false;
  unbroken_writer : (g.W.Sink.out l.writer).broken ≡ false;
  going : SharedSoFar g.S.SharedResponder.barrier g.S.SharedResponder.turn starting l.streams (read_ahead l.reader) (ahead g.R.Source.input l.fn.reader)
      (ahead g.R.Source.input l.reader) (g.W.Sink.out l.fn.writer) (g.W.Sink.out l.writer) l.fn.server l.server l.counter;
}
