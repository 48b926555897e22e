-- Definitions for contracts and proofs, beside promise/SharedMachine.
use Rattle.std.proofs.Common.{map}
use Rattle.oa_turn.specs.promise.ClientLocks.{ClientLock}
use Rattle.oa_server.specs.promise.SharedMachine.{Shared, all_released, KeepsBank, all_back}

-- ---- a lock that is taken back is no part of what images hold

pub close_keeps : (old : Shared) → KeepsBank old.state (all_released old).state
close_keeps old = all_back (map (λ (lock : ClientLock). lock.name) old.locks) old.state
