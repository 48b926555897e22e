use Rattle.oa_server.proofs.SharedParts.{sessions_are_calls, stretches_count, stretches_go_on}
use Rattle.oa_server.proofs.laws.shared_sessions_are_calls.Goals as goal

pub returns-clause-calls : goal.returns-clause-calls
returns-clause-calls g c = sessions_are_calls {g = g.D.Disk} (λ d f honest since. g.met.D.Disk.only_now d f honest since)

pub returns-clause-goes_on : goal.returns-clause-goes_on
returns-clause-goes_on g c start mid new first last after calls size stretches sits is going =
    stretches_go_on {g = g.D.Disk} start mid new first last after calls size stretches sits is going

pub returns-clause-counts : goal.returns-clause-counts
returns-clause-counts g c start mid new first last after calls size stretches was going is =
    stretches_count {g = g.D.Disk} start mid new first last after calls size stretches was going is
