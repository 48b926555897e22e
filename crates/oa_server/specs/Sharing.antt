-- Definitions for contracts and proofs, beside promise/SharedMachine.
use Rattle.std.specs.Prelude.{◌≡◌, ℕ, false, List, []}
use Rattle.oa_record.specs.promise.Replacement.{is_replacement}
use Rattle.oa_record.specs.promise.Replies.{ReplyValue}
use Rattle.oa_turn.specs.promise.Events.{HasEvent}
use Rattle.oa_turn.specs.promise.Events as turns
use Rattle.oa_server.specs.promise.SharedMachine.{Shared, TurnsFor}

-- ---- turns

-- A body was answered as a change of a lock, or as out of memory: it made no event.
pub record IsLockTurn (client : ℕ) (body : List ℕ) (reply : ReplyValue) (old new : Shared) : Type 0 where
  pub turn : TurnsFor client body reply old new
  pub made : HasEvent old.state body reply []
  pub same : turns.held_of new.state ≡ turns.held_of old.state
  pub bank : new.state.bank ≡ old.state.bank
  pub plain : is_replacement body ≡ false
