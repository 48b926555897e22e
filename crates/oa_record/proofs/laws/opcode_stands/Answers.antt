use Rattle.oa_record.proofs.Requests.{opcode_stands}
use Rattle.oa_record.proofs.laws.opcode_stands.Goals as goal

pub returns : goal.returns
returns c = opcode_stands
