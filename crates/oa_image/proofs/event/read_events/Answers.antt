use Rattle.oa_image.proofs.Lengths.{event_bytes}
use Rattle.oa_image.proofs.event.read_events.Goals as goal

pub read_row-requires : goal.read_row-requires
read_row-requires c = event_bytes
