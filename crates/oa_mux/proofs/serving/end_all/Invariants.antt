use Rattle.std.proofs.Common.{◌≡◌, ◌+◌, length, false}
use Rattle.oa_mux.proofs.Talks.{EndsSoFar}
use Rattle.oa_mux.proofs.serving.end_all.Given as goal

abbrev pub invariant-ends : goal.invariant-ends
invariant-ends g l = record {
  ready : g.S.SharedResponder.ready l.server;
  unbroken : (g.W.Sink.out l.writer).broken ≡ false;
  count : length l.streams.clients + l.counter ≡ l.count;
  going : EndsSoFar g.S.SharedResponder.barrier g.S.SharedResponder.turn l.fn.streams.clients l.streams.clients (g.W.Sink.out l.fn.writer)
      (g.W.Sink.out l.writer) l.fn.server l.server;
}
