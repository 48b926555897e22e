use Rattle.oa_gateway.proofs.Disconnected.{stays, keeps_its_replies, keeps_while_half_is_free}
use Rattle.oa_gateway.proofs.laws.readers_stay.Goals as goal

pub returns : goal.returns
returns c = record { times = stays; memory = keeps_its_replies; half = keeps_while_half_is_free }
