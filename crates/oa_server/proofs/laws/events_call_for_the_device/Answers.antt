use Rattle.oa_server.proofs.Making.{event_of}
use Rattle.oa_server.proofs.laws.events_call_for_the_device.Goals as goal

pub returns : goal.returns
returns c = event_of
