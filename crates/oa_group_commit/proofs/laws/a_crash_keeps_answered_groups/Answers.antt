use Rattle.oa_group_commit.proofs.Calling.{session_ended, session_left, session_stopped}
use Rattle.oa_group_commit.specs.Simple.{toy_machine}
use Rattle.oa_group_commit.proofs.laws.a_crash_keeps_answered_groups.Goals as goal

pub returns-clause-stopped : goal.returns-clause-stopped
returns-clause-stopped g c old new first calls last session m f later since =
    session_stopped toy_machine g.D.Disk.moment g.D.Disk.image_since old new first calls last session m f later since

pub returns-clause-all : goal.returns-clause-all
returns-clause-all g c old new first calls last session m le =
    session_ended toy_machine g.D.Disk.moment g.D.Disk.image_since old new first calls last session m le

pub returns-clause-link : goal.returns-clause-link
returns-clause-link g c old new first calls last session m f later since = session_left toy_machine g.D.Disk old new first calls last session m f later since
