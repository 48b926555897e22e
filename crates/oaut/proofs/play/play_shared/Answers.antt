use Rattle.oaut.proofs.SessionEnds.{answers}
use Rattle.oaut.proofs.play.play_shared.Goals as goal

pub returns : goal.returns
returns c = answers _ _ c.hold_shared.result (record {
  old = c.in_memory-server.result.engine;
  new = c.hold_shared.new.server.engine;
  begins = record {
    memory = c.in_memory-server.ensures.memory;
    library = c.in_ok-read_library_file.field-0;
    text = c.in_ok-read_library_file.ensures.read.0;
    is = c.in_ok-read_library_file.ensures.read.1;
    state_is = c.in_memory-server.ensures.state;
  };
  holds = c.hold_shared.ensures.session;
})
