use Rattle.oa_group_commit.proofs.Ends.{underway_ended}
use Rattle.oa_group_commit.proofs.Takes.{underway_start, underway_taken}
use Rattle.oa_group_commit.specs.Simple.{toy_machine}
use Rattle.oa_group_commit.proofs.laws.admitted_are_served.Goals as goal

pub returns-clause-start : goal.returns-clause-start
returns-clause-start g c size start = underway_start toy_machine {g = g.D.Disk} (λ d f honest since. g.met.D.Disk.only_now d f honest since) start size

pub returns-clause-taken : goal.returns-clause-taken
returns-clause-taken g c size start = underway_taken toy_machine {g = g.D.Disk} (λ d f honest since. g.met.D.Disk.only_now d f honest since) start size

pub returns-clause-ended : goal.returns-clause-ended
returns-clause-ended g c size start = underway_ended toy_machine {g = g.D.Disk} (λ d f honest since. g.met.D.Disk.only_now d f honest since) start size
