-- Definitions for contracts and proofs, beside promise/ServerMachine.
use Rattle.std.specs.Prelude.{◌≡◌, ℕ, ◌≤◌, ◌++◌, List, [], length}
use Rattle.oa_model.specs.promise.Limits.{max_event_bytes}
use Rattle.oa_group_commit.specs.promise.Groups.{exchange}
use Rattle.oa_record.specs.promise.Replies.{ReplyValue}
use Rattle.oa_turn.specs.promise.Events.{held_of}
use Rattle.oa_decision.specs.promise.States.{State}
use Rattle.oa_server.specs.promise.ServerMachine.{IsAsked}

-- a turn, whose event is added to those of the open group
pub record IsHeldBack (body : List ℕ) (reply : ReplyValue) (events events' : List ℕ) (old new : State) : Type 0 where
  pub event : List ℕ
  pub asked : IsAsked (exchange body reply event) old new
  pub added : events' ≡ events ++ event
  pub small : length event ≤ max_event_bytes

-- some turn of the body that changes nothing in images
pub record HasTurn (body : List ℕ) (old new : State) : Type 0 where
  pub reply : ReplyValue
  pub asked : IsAsked (exchange body reply []) old new
  pub same : held_of new ≡ held_of old
