use Rattle.std.proofs.Common.{sym}
use Rattle.oa_record.proofs.OpcodeLaws.{named_back, number_from}
use Rattle.oa_record.proofs.laws.one_number.Goals as goal

pub returns : goal.returns
returns c = record { back = named_back; only = λ n opcode e. sym (number_from n opcode e) }
