-- Definitions for contracts and proofs, beside promise/ServerMachine.
use Rattle.std.specs.Prelude.{◌≡◌, ℕ, List, [], ◌∷◌}
use Rattle.oa_record.specs.promise.Replies.{ReplyValue, reply_record}
use Rattle.oa_decision.specs.promise.States.{State}
use Rattle.oa_turn.specs.promise.Turns.{Turn}

-- a turn, with the bytes of its reply without a length: every body has one reply, sent at that body
abbrev pub turn_written : State → List ℕ → List (List ℕ) → State → Type 0
turn_written old body replies new = (reply : ReplyValue) × (replies ≡ reply_record reply ∷ []) × Turn old body reply new

-- so none is held when the input ends
abbrev pub none_held : State → List (List ℕ) → State → Type 0
none_held old replies new = (replies ≡ []) × (new ≡ old)
