-- A run goes on by one turn.
use Rattle.std.proofs.Common.{◌≡◌, ℕ, ◌+◌, ◌<◌, List, [], ◌∷◌, ◌++◌, map, take, length, get_or, refl, subst}
use Rattle.std.proofs.lemmas.List.{take_more, map_push}
use Rattle.oa_record.specs.promise.Replies.{ReplyValue}
use Rattle.oa_decision.specs.promise.States.{State}
use Rattle.oa_turn.specs.promise.Turns.{Turn, Run}

pub run_more : (old mid new : State) (bodies : List (List ℕ)) (replies : List ReplyValue) (body : List ℕ) (reply : ReplyValue)
    → Run old bodies replies mid → Turn mid body reply new → Run old (bodies ++ body ∷ []) (replies ++ reply ∷ []) new
run_more old mid new [] [] body reply r t = (new, subst (λ from. Turn from body reply new) r t, refl)
run_more old mid new [] (x ∷ xs) body reply r t = absurd r
run_more old mid new (x ∷ xs) [] body reply r t = absurd r
run_more old mid new (x ∷ xs) (y ∷ ys) body reply r t = (r.0, r.1, run_more r.0 mid new xs ys body reply r.2 t)

-- the run of some bodies goes on by the turn of the next one
pub run_step : {X : Type 0} (f : X → List ℕ) (bodies : List X) (i : ℕ) (body : X) (old mid new : State) (replies : List ReplyValue) (reply : ReplyValue)
    → i < length bodies → get_or bodies i body ≡ body → Run old (map f (take i bodies)) replies mid → Turn mid (f body) reply new
    → Run old (map f (take (i + 1) bodies)) (replies ++ reply ∷ []) new
run_step f bodies i body old mid new replies reply within is r t =
    let more : map f (take (i + 1) bodies) ≡ map f (take i bodies) ++ f body ∷ [] = rw (take_more bodies i body within, is) (map_push f (take i bodies) body) in
    rw more (run_more old mid new (map f (take i bodies)) replies (f body) reply r t)
