-- What images contain of a state, and the event of a turn. (This project's choice.)
use Rattle.std.specs.Prelude.{◌≡◌, ℕ, ◌==◌, Bool, false, true, List, [], Option, Some, None}
use Rattle.oa_image.specs.promise.Events.{event_image}
use Rattle.oa_record.specs.promise.Asks.{Asks}
use Rattle.oa_record.specs.promise.Replacement.{is_replacement}
use Rattle.oa_record.specs.promise.Replies.{ReplyValue}
use Rattle.oa_record.specs.declared.request.Request.{Request}
use Rattle.oa_table.specs.declared.event.Event.{Event}
use Rattle.oa_table.specs.promise.Tables.{TableValue, unlocked_table}
use Rattle.oa_decision.specs.promise.States.{State}
use Rattle.oa_turn.specs.promise.Steps.{outcome}

-- what images contain of a state: its table without locks
abbrev pub held_of : State → TableValue
held_of state = unlocked_table state.table

-- a reply with S_OK
abbrev pub is_done : ReplyValue → Bool
is_done reply = reply.code.0 == 0

abbrev pub change_bytes : Option Event → List ℕ
change_bytes None = []
change_bytes (Some event) = event_image event

-- the bytes of the event that a body made, and no others: none if its reply is not S_OK
pub record HasEvent (old : State) (body : List ℕ) (reply : ReplyValue) (event : List ℕ) : Type 0 where
  pub done : (request : Request) → is_replacement body ≡ false → Asks body request → is_done reply ≡ true
      → event ≡ change_bytes (outcome old request).event
  pub undone : is_done reply ≡ false → event ≡ []
