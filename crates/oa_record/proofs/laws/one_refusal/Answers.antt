use Rattle.oa_record.proofs.Refusals.{one_code, one_index}
use Rattle.oa_record.proofs.laws.one_refusal.Goals as goal

pub returns : goal.returns
returns c = record { code = one_code; index = one_index }
