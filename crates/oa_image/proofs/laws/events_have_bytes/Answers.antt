use Rattle.oa_image.proofs.Lengths.{event_bytes}
use Rattle.oa_image.proofs.laws.events_have_bytes.Goals as goal

pub returns : goal.returns
returns c = event_bytes
