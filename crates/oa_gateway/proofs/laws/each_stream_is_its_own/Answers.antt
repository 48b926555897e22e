use Rattle.oa_gateway.proofs.Streams.{gone, there}
use Rattle.oa_gateway.proofs.laws.each_stream_is_its_own.Goals as goal

pub returns : goal.returns
returns c = record { there = there; gone = gone }
