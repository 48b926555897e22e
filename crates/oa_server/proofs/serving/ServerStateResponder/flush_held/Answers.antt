use Rattle.std.proofs.Common.{[], refl}
use Rattle.oa_frame.specs.promise.Framings.{frames}
use Rattle.oa_frame.proofs.Spelled.{puts_none}
use Rattle.oa_server.proofs.serving.ServerStateResponder.flush_held.Goals as goal

pub returns-in-Memory : goal.returns-in-Memory
returns-in-Memory g c = record {
  ready = rw c.in-Memory.is tt;
  finishes = record {
    held = [];
    ended = rw c.in-Memory.is (refl, (refl, refl));
    put = puts_none (frames c.args.framing).spelled _ [] refl c.requires.unbroken;
  };
}
