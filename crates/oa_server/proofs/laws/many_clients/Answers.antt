use Rattle.std.proofs.Common.{refl}
use Rattle.oa_group_commit.proofs.Calling.{one_fault, session_called, session_goes_on, session_late, session_opened, session_stands, session_stopped}
use Rattle.oa_group_commit.proofs.Histories.{crash_histories_keep_groups, refused_groups_leave_no_trace}
use Rattle.oa_server.specs.promise.SharedMachine.{shared_machine}
use Rattle.oa_server.proofs.laws.many_clients.Goals as goal

pub returns-clause-headline : goal.returns-clause-headline
returns-clause-headline g c = crash_histories_keep_groups shared_machine g.D.Disk

pub returns-clause-others : goal.returns-clause-others
returns-clause-others g c = refused_groups_leave_no_trace shared_machine

pub returns-clause-opened : goal.returns-clause-opened
returns-clause-opened g c start now first calls all = session_opened shared_machine {g = g.D.Disk} start now first calls all

pub returns-clause-called : goal.returns-clause-called
returns-clause-called g c start mid new first last after calls call was is = (
  session_called shared_machine {g = g.D.Disk} start mid new first last after calls call was is,
  refl,
  session_stands shared_machine {g = g.D.Disk} start mid new first last after calls call was is,
)

pub returns-clause-goes_on : goal.returns-clause-goes_on
returns-clause-goes_on g c start mid new first last after calls call was is going =
    session_goes_on shared_machine {g = g.D.Disk} start mid new first last after calls call was is going

pub returns-clause-late : goal.returns-clause-late
returns-clause-late g c start now first last calls call was stopped told = session_late shared_machine g.D.Disk start now first last calls call was stopped told

pub returns-clause-one : goal.returns-clause-one
returns-clause-one g c start now first last calls session = one_fault shared_machine g.D.Disk start now first last calls session

pub returns-clause-stopped : goal.returns-clause-stopped
returns-clause-stopped g c old new first calls last session m f later since =
    session_stopped shared_machine g.D.Disk.moment g.D.Disk.image_since old new first calls last session m f later since
