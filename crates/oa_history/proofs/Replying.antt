-- One call more of a session by calls.
use Rattle.std.proofs.Common.{◌≡◌, ℕ, ◌+◌, ◌<◌, List, [], ◌∷◌, ◌++◌, take, length, get_or, refl, sym, ◌∙◌, ap, subst, arith, length-append}
use Rattle.std.proofs.lemmas.List.{take_more}
use Rattle.oa_disk.specs.declared.disk.Disk.{Ghosts}
use Rattle.oa_record.specs.promise.Replies.{ReplyValue}
use Rattle.oa_decision.specs.promise.States.{State}
use Rattle.oa_server.specs.promise.Storages.{Serves, disk_of}
use Rattle.oa_server.specs.declared.storage.Storage.{Storage}
use Rattle.oa_history.specs.promise.CrashHistories.{call_bodies, made_calls}
use Rattle.oa_history.specs.promise.DurablePrefixes.{CallSequence, CompletedCall}
use Rattle.oa_history.proofs.Calls.{made_push}
use Rattle.oa_history.specs.declared.session.Answer.{Answer}
use Rattle.oa_history.specs.declared.session.ServerCall.{ServerCall}

abbrev done : ServerCall → Answer → CompletedCall ReplyValue
done call answer = record { call = record { size = call.group; bodies = call_bodies call; replies = answer.replies.items }; moment = answer.moment }

calls_push : (calls : List ServerCall) (answers : List Answer) (call : ServerCall) (answer : Answer) → length answers ≡ length calls
    → made_calls (calls ++ call ∷ []) (answers ++ answer ∷ []) ≡ made_calls calls answers ++ done call answer ∷ []
calls_push [] [] call answer same = refl
calls_push [] (a ∷ answers) call answer same = absurd (omega (arith, same))
calls_push (c ∷ calls) [] call answer same = absurd (omega (arith, same))
calls_push (c ∷ calls) (a ∷ answers) call answer same = ap (λ (l : List (CompletedCall ReplyValue)). done c a ∷ l)
    (calls_push calls answers call answer (omega (arith, same)))

-- the first i + 1 calls
pub made_more : {D : Type 0} {g : Ghosts D} (old : Storage D g) (first : State) (calls : List ServerCall) (i : ℕ) (answers all : List Answer)
    (mid : Storage D g) (state : State) (call : ServerCall) (answer : Answer) (new : Storage D g) (last : State)
    → i < length calls → get_or calls i call ≡ call → all ≡ answers ++ answer ∷ [] → length answers ≡ length (take i calls)
    → CallSequence Serves old first (made_calls (take i calls) answers) mid state → Serves call.group mid new state (call_bodies call) answer.replies.items last
    → answer.moment ≡ g.moment (disk_of new)
    → (length all ≡ length (take (i + 1) calls)) × CallSequence Serves old first (made_calls (take (i + 1) calls) all) new last
made_more old first calls i answers all mid state call answer new last within is all_are same made serves at =
    let here : take (i + 1) calls ≡ take i calls ++ call ∷ [] = rw (take_more calls i call within, is) refl in
    let more : made_calls (take (i + 1) calls) all ≡ made_calls (take i calls) answers ++ done call answer ∷ [] =
    rw (here, all_are) (calls_push (take i calls) answers call answer same) in (
      ap length all_are ∙ length-append answers (answer ∷ []) ∙ ap (λ (n : ℕ). n + 1) same ∙ sym (length-append (take i calls) (call ∷ []))
          ∙ ap length (sym here),
      subst (λ (l : List (CompletedCall ReplyValue)). CallSequence Serves old first l new last) (sym more)
          (made_push Serves old first (made_calls (take i calls) answers) mid state (done call answer) new last made serves at),
    )
