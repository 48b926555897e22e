use Rattle.std.proofs.Common.{rules}
use Rattle.oa_record.proofs.Bringing.{asks_read}
use Rattle.oa_record.proofs.reading.read_value_call.Goals as goal

pub returns-then-body : goal.returns-then-body
returns-then-body c = asks_read c.args.body.now c.in-Ok.parts.head _ c.value_call.result (search rules) c.in-Ok.ensures c.value_call.ensures
