use Rattle.oa_group_commit.proofs.Calling.{session_ended, session_left, session_stopped}
use Rattle.oa_server.specs.promise.ServerMachine.{server_machine}
use Rattle.oa_server.specs.promise.SharedMachine.{shared_machine}
use Rattle.oa_server.proofs.laws.a_crash_keeps_what_was_acknowledged.Goals as goal

pub returns-clause-stopped : goal.returns-clause-stopped
returns-clause-stopped g c old new first calls last session m f later since =
    session_stopped server_machine g.D.Disk.moment g.D.Disk.image_since old new first calls last session m f later since

pub returns-clause-all : goal.returns-clause-all
returns-clause-all g c old new first calls last session m le =
    session_ended server_machine g.D.Disk.moment g.D.Disk.image_since old new first calls last session m le

pub returns-clause-link : goal.returns-clause-link
returns-clause-link g c old new first calls last session m f later since = session_left server_machine g.D.Disk old new first calls last session m f later since

pub returns-clause-all_of_many : goal.returns-clause-all_of_many
returns-clause-all_of_many g c old new first calls last session m le =
    session_ended shared_machine g.D.Disk.moment g.D.Disk.image_since old new first calls last session m le

pub returns-clause-link_of_many : goal.returns-clause-link_of_many
returns-clause-link_of_many g c old new first calls last session m f later since =
    session_left shared_machine g.D.Disk old new first calls last session m f later since
