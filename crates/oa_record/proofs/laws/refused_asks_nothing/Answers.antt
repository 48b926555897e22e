use Rattle.oa_record.proofs.Requests.{stub_asks_nothing, bad_type_asks_nothing}
use Rattle.oa_record.proofs.laws.refused_asks_nothing.Goals as goal

pub returns : goal.returns
returns c = record { stub = stub_asks_nothing; bad_type = bad_type_asks_nothing }
