-- Definitions for contracts and proofs, beside promise/SharedSessions.
use Rattle.std.specs.Prelude.{⊤}
use Rattle.oa_disk.specs.declared.disk.Disk.{Ghosts}
use Rattle.oa_server.specs.SharedGroups.{DeskIsReady}
use Rattle.oa_server.specs.declared.desk.SharedGroup.{SharedGroup}
use Rattle.oa_server.specs.declared.engine.ServerState.{ServerState}
use Rattle.oa_server.specs.declared.storage.Storage.{Storage}
use Rattle.oa_server.specs.declared.storage.Storage.TheVariants.{Disk, Memory}

-- one more request fits into the open group
abbrev pub DeskCanTake : {D : Type 0} {g : Ghosts D} → Storage D g → SharedGroup → Type 0
DeskCanTake (Memory disk) desk = ⊤
DeskCanTake (Disk store) desk = DeskIsReady store desk

-- the invariant of a server between two turns
abbrev pub TakesAsked : {D : Type 0} {g : Ghosts D} → ServerState D g → Type 0
TakesAsked engine = DeskCanTake engine.storage engine.desk
