use Rattle.std.proofs.Common.{refl}
use Rattle.oa_group_commit.proofs.Calling.{one_fault, session_called, session_goes_on, session_late, session_opened, session_stands}
use Rattle.oa_group_commit.specs.Simple.{toy_machine}
use Rattle.oa_group_commit.proofs.laws.group_sessions_continue.Goals as goal

pub returns-clause-opened : goal.returns-clause-opened
returns-clause-opened g c start now first calls all = session_opened toy_machine {g = g.D.Disk} start now first calls all

pub returns-clause-called : goal.returns-clause-called
returns-clause-called g c start mid new first last after calls call was is = (
  session_called toy_machine {g = g.D.Disk} start mid new first last after calls call was is,
  refl,
  session_stands toy_machine {g = g.D.Disk} start mid new first last after calls call was is,
)

pub returns-clause-goes_on : goal.returns-clause-goes_on
returns-clause-goes_on g c start mid new first last after calls call was is going =
    session_goes_on toy_machine {g = g.D.Disk} start mid new first last after calls call was is going

pub returns-clause-late : goal.returns-clause-late
returns-clause-late g c start now first last calls call was stopped told = session_late toy_machine g.D.Disk start now first last calls call was stopped told

pub returns-clause-one : goal.returns-clause-one
returns-clause-one g c start now first last calls session = one_fault toy_machine g.D.Disk start now first last calls session
