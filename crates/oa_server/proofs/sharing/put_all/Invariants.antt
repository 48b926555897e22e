use Rattle.std.proofs.Common.{take}
use Rattle.oa_server.specs.promise.SharedSessions.{all_frames, told_to}
use Rattle.oa_mux.specs.promise.Outgoing.{spelled_frames}
use Rattle.oa_stream.specs.promise.Sink.{Writes}
use Rattle.oa_server.proofs.sharing.put_all.Given as goal

abbrev pub invariant-replies : goal.invariant-replies
invariant-replies g l = record {
  written : Writes (g.W.Sink.out l.fn.writer) (g.W.Sink.out l.writer) (spelled_frames (all_frames (told_to (take l.i l.askers) (take l.i l.replies))));
}
