use Rattle.std.proofs.Common.{rules}
use Rattle.uuid.proofs.RoundTrips.{swap_twice}
use Rattle.oa_model.proofs.guid.guid_from_wire.Goals as goal

pub returns-clause-back : goal.returns-clause-back
returns-clause-back c = rw c.from_bytes_le.ensures (swap_twice c.args.bytes (search rules))
