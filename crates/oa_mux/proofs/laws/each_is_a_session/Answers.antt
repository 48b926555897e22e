use Rattle.oa_mux.proofs.Sessions.{as_a_session, each_is_read}
use Rattle.oa_mux.proofs.laws.each_is_a_session.Goals as goal

pub returns : goal.returns
returns c = record { reads = as_a_session; read = each_is_read }
