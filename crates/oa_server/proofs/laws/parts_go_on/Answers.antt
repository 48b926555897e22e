use Rattle.oa_server.proofs.Parting.{parts_count, parts_go_on}
use Rattle.oa_server.proofs.laws.parts_go_on.Goals as goal

pub returns-clause-goes_on : goal.returns-clause-goes_on
returns-clause-goes_on g c start mid new first last after calls size parts sits is going =
    parts_go_on {g = g.D.Disk} start mid new first last after calls size parts sits is going

pub returns-clause-counts : goal.returns-clause-counts
returns-clause-counts g c start mid new first last after calls size parts was going is =
    parts_count {g = g.D.Disk} start mid new first last after calls size parts was going is
