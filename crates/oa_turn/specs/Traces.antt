-- A run without turns that were not answered with S_OK. (This project's choice.)
use Rattle.std.specs.Prelude.{ℕ, ◌==◌, ◌&&◌, not, Bool, if◌then◌else◌, List, [], ◌∷◌}
use Rattle.oa_record.specs.promise.Replies.{ReplyValue}

-- the bodies that were answered with S_OK
abbrev pub done_bodies : List (List ℕ) → List ReplyValue → List (List ℕ)
done_bodies [] replies = []
done_bodies (body ∷ bodies) [] = []
done_bodies (body ∷ bodies) (reply ∷ replies) = if reply.code.0 == 0 then body ∷ done_bodies bodies replies
    else done_bodies bodies replies

-- their replies
abbrev pub done_replies : List ReplyValue → List ReplyValue
done_replies [] = []
done_replies (reply ∷ replies) = if reply.code.0 == 0 then reply ∷ done_replies replies else done_replies replies

-- a turn is left out if it is chosen and was not answered with S_OK
abbrev pub leaves_out : Bool → ReplyValue → Bool
leaves_out chosen reply = chosen && not (reply.code.0 == 0)

-- the bodies without some of those that were not answered with S_OK, chosen by a list with an entry for each
abbrev pub kept_bodies : List Bool → List (List ℕ) → List ReplyValue → List (List ℕ)
kept_bodies [] bodies replies = bodies
kept_bodies (chosen ∷ choices) [] replies = []
kept_bodies (chosen ∷ choices) (body ∷ bodies) [] = []
kept_bodies (chosen ∷ choices) (body ∷ bodies) (reply ∷ replies) =
    if leaves_out chosen reply then kept_bodies choices bodies replies else body ∷ kept_bodies choices bodies replies

-- their replies
abbrev pub kept_replies : List Bool → List ReplyValue → List ReplyValue
kept_replies [] replies = replies
kept_replies (chosen ∷ choices) [] = []
kept_replies (chosen ∷ choices) (reply ∷ replies) =
    if leaves_out chosen reply then kept_replies choices replies else reply ∷ kept_replies choices replies
