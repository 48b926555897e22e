-- Replies one after another, and what is lost of them.
use Rattle.std.proofs.Common.{◌≡◌, ℕ, false, List, [], ◌∷◌, ◌++◌, Result, refl, sym, append_assoc}
use Rattle.std.proofs.lemmas.List.{append-nil}
use Rattle.oa_stream.specs.declared.sink.Unwritten.{Unwritten}
use Rattle.oa_stream.specs.promise.Sink.{Output, Writes}
use Rattle.oa_stream.specs.Sink.{Puts}
use Rattle.oa_stream.proofs.Stretches.{writes_nothing}
use Rattle.oa_frame.specs.promise.Sessions.{spelled_all, concat_replies, latest}

pub spelled_append : (s : List ℕ → List ℕ) (xs ys : List (List ℕ)) → spelled_all s (xs ++ ys) ≡ spelled_all s xs ++ spelled_all s ys
unfolding spelled_all
spelled_append s [] ys = refl
spelled_append s (x ∷ xs) ys = rw (spelled_append s xs ys) (sym (append_assoc (s x) (spelled_all s xs) (spelled_all s ys)))

pub spelled_one : (s : List ℕ → List ℕ) (x : List ℕ) → spelled_all s (x ∷ []) ≡ s x
unfolding spelled_all
spelled_one s x = append-nil (s x)

-- nothing is to be put, or one reply
pub puts_none : (s : List ℕ → List ℕ) (o : Output) (replies : List (List ℕ)) → replies ≡ [] → o.broken ≡ false → Writes o o (spelled_all s replies)
unfolding spelled_all
puts_none s o replies e h = rw e (writes_nothing o h)

pub puts_one : (s : List ℕ → List ℕ) (result : Result (Unit {0}) Unwritten) (o p : Output) (replies : List (List ℕ)) (reply : List ℕ) → replies ≡ reply ∷ []
    → Puts result o p (s reply) → Puts result o p (spelled_all s replies)
puts_one s result o p replies reply e h = rw (e, spelled_one s reply) h

pub joined_more : (handed : List (List (List ℕ))) (replies : List (List ℕ)) → concat_replies (handed ++ replies ∷ []) ≡ concat_replies handed ++ replies
unfolding concat_replies
joined_more [] replies = append-nil replies
joined_more (first ∷ handed) replies = rw (joined_more handed replies) (sym (append_assoc first (concat_replies handed) replies))

pub latest_more : (handed : List (List (List ℕ))) (replies : List (List ℕ)) → latest (handed ++ replies ∷ []) ≡ replies
unfolding latest
latest_more [] replies = refl
latest_more (first ∷ []) replies = refl
latest_more (first ∷ (next ∷ handed)) replies = latest_more (next ∷ handed) replies
