-- Frames that are put one after another.
use Rattle.std.proofs.Common.{◌≡◌, if◌then◌else◌, ℕ, ◌+◌, ◌<◌, ◌≤◌, Bool, true, false, List, [], ◌∷◌, ◌++◌, map, take, drop, length, get_or, Option, Some}
use Rattle.std.proofs.Common.{None, Result, Ok, Err, refl, sym, ap, ◌∙◌, subst, arith, append_assoc}
use Rattle.std.proofs.lemmas.List.{append-nil, length-take-le, take-append-drop, take_more}
use Rattle.oa_frame.specs.promise.Sessions.{is_answered}
use Rattle.oa_frame.specs.declared.ends.End.{End}
use Rattle.oa_record.specs.promise.Replies.{ReplyValue, reply_record}
use Rattle.oa_stream.specs.promise.Sink.{Breaks, Output, Writes}
use Rattle.oa_stream.specs.Sink.{Puts}
use Rattle.oa_stream.specs.declared.sink.Unwritten.{Unwritten}
use Rattle.oa_stream.proofs.Stretches.{breaks_after, breaks_before, puts_then, writes_nothing, writes_then}
use Rattle.oa_server.specs.promise.SharedSessions.{all_frames, frames_of, frames_with, told_to, told_with}
use Rattle.oa_server.specs.promise.ServerMachine.{last_written}
use Rattle.oa_server.specs.promise.SharedMachine.{ClientReply, Leaves, Replies}
use Rattle.oa_server.specs.declared.desk.ReplyTo.{ReplyTo}
use Rattle.oa_server.proofs.Lifted.{told_both}
use Rattle.oa_mux.specs.promise.Outgoing.{spelled_frame, spelled_frames}

pub frames_append : (xs ys : List (ℕ × List ℕ)) → spelled_frames (xs ++ ys) ≡ spelled_frames xs ++ spelled_frames ys
unfolding spelled_frames
frames_append [] ys = refl
frames_append (x ∷ xs) ys = ap (λ (l : List ℕ). spelled_frame x ++ l) (frames_append xs ys)
    ∙ sym (append_assoc (spelled_frame x) (spelled_frames xs) (spelled_frames ys))

pub frames_one : (x : ℕ × List ℕ) → spelled_frames (x ∷ []) ≡ spelled_frame x
unfolding spelled_frames
frames_one x = append-nil (spelled_frame x)

pub told_append : (xs ys : List ClientReply) → all_frames (xs ++ ys) ≡ all_frames xs ++ all_frames ys
unfolding all_frames
told_append [] ys = refl
told_append (x ∷ xs) ys = ap (λ (l : List (ℕ × List ℕ)). frames_of x ++ l) (told_append xs ys)
    ∙ sym (append_assoc (frames_of x) (all_frames xs) (all_frames ys))

pub told_one : (x : ClientReply) → all_frames (x ∷ []) ≡ frames_of x
unfolding all_frames
told_one x = append-nil (frames_of x)

pub no_told : all_frames [] ≡ []
unfolding all_frames
no_told = refl

pub no_frame : spelled_frames [] ≡ []
unfolding spelled_frames
no_frame = refl

-- one frame
pub puts_frame : (result : Result (Unit {0}) Unwritten) (o p : Output) (x : ℕ × List ℕ) → Puts result o p (spelled_frame x)
    → Puts result o p (spelled_frames (x ∷ []))
puts_frame result o p x put = subst (λ (l : List ℕ). Puts result o p l) (sym (frames_one x)) put

-- the end of a client
ended_frames : (client : ℕ) (why : End) (b : Bool) → is_answered why ≡ b → frames_of (Leaves client why) ≡ frames_with client
    ((if b then last_written ∷ [] else []) ++ [] ∷ [])
ended_frames client why b e = ap (λ (c : Bool). frames_with client ((if c then last_written ∷ [] else []) ++ [] ∷ [])) e

pub puts_last : (result : Result (Unit {0}) Unwritten) (o p : Output) (client : ℕ) (why : End) → is_answered why ≡ false
    → Puts result o p (spelled_frame (client, [])) → Puts result o p (spelled_frames (frames_of (Leaves client why)))
puts_last result o p client why e put = subst (λ (l : List (ℕ × List ℕ)). Puts result o p (spelled_frames l)) (sym (ended_frames client why false e))
    (puts_frame result o p (client, []) put)

stub_and_last : (client : ℕ) (why : End) → is_answered why ≡ true → spelled_frames (frames_of (Leaves client why)) ≡ spelled_frame (client, last_written)
    ++ spelled_frame (client, [])
stub_and_last client why e =
    ap spelled_frames (ended_frames client why true e) ∙ frames_append ((client, last_written) ∷ []) ((client, []) ∷ [])
    ∙ ap (λ (l : List ℕ). l ++ spelled_frames ((client, []) ∷ [])) (frames_one (client, last_written))
    ∙ ap (λ (l : List ℕ). spelled_frame (client, last_written) ++ l) (frames_one (client, []))

pub puts_stub : (result : Result (Unit {0}) Unwritten) (o p q : Output) (client : ℕ) (why : End) → is_answered why ≡ true
    → Writes o p (spelled_frame (client, last_written)) → Puts result p q (spelled_frame (client, []))
    → Puts result o q (spelled_frames (frames_of (Leaves client why)))
puts_stub result o p q client why e first last = subst (λ (l : List ℕ). Puts result o q l) (sym (stub_and_last client why e))
    (puts_then result o p q (spelled_frame (client, last_written)) (spelled_frame (client, [])) first last)

pub stub_fails : (o p : Output) (client : ℕ) (why : End) → is_answered why ≡ true → Breaks o p (spelled_frame (client, last_written))
    → Breaks o p (spelled_frames (frames_of (Leaves client why)))
stub_fails o p client why e fails = subst (λ (l : List ℕ). Breaks o p l) (sym (stub_and_last client why e))
    (breaks_before o p (spelled_frame (client, last_written)) (spelled_frame (client, [])) fails)

-- ---- one reply after another
module _ (askers : List ReplyTo) (replies : List ReplyValue) (each : length askers ≡ length replies) where
  abbrev spelled : List ReplyTo → List ReplyValue → List ℕ
  spelled ones rs = spelled_frames (all_frames (told_to ones rs))

  both : (ones others : List ReplyTo) (rs ss : List ReplyValue) → length ones ≡ length rs
      → spelled (ones ++ others) (rs ++ ss) ≡ spelled ones rs ++ spelled others ss
  both ones others rs ss e = ap (λ (l : List ClientReply). spelled_frames (all_frames l)) (told_both ones others rs ss e)
      ∙ ap spelled_frames (told_append (told_to ones rs) (told_to others ss)) ∙ frames_append (all_frames (told_to ones rs)) (all_frames (told_to others ss))

  fronts : (i : ℕ) → i ≤ length replies → length (take i askers) ≡ length (take i replies)
  fronts i within = length-take-le i askers (omega (arith, each, within)) ∙ sym (length-take-le i replies within)

  module _ (i : ℕ) (asker : ReplyTo) (reply : ReplyValue) (within : i < length replies) (here : get_or askers i asker ≡ asker)
      (is : get_or replies i reply ≡ reply) where
    abbrev own : List ℕ
    own = spelled_frames (frames_of (told_with asker.client asker.why reply))

    one_more : spelled (take (i + 1) askers) (take (i + 1) replies) ≡ spelled (take i askers) (take i replies) ++ own
    one_more =
        let one : take (i + 1) askers ≡ take i askers ++ asker ∷ [] = rw (take_more askers i asker (omega (arith, each, within)), here) refl in
        let two : take (i + 1) replies ≡ take i replies ++ reply ∷ [] = rw (take_more replies i reply within, is) refl in
        let less : i ≤ length replies = omega (arith, within) in
        ap (λ (l : List ReplyTo). spelled l (take (i + 1) replies)) one ∙ ap (λ (l : List ReplyValue). spelled (take i askers ++ asker ∷ []) l) two
        ∙ both (take i askers) (asker ∷ []) (take i replies) (reply ∷ []) (fronts i less)
        ∙ ap (λ (l : List (ℕ × List ℕ)). spelled (take i askers) (take i replies) ++ spelled_frames l) (told_one (told_with asker.client asker.why reply))

    all_of : spelled askers replies ≡ (spelled (take i askers) (take i replies) ++ own) ++ spelled (drop (i + 1) askers) (drop (i + 1) replies)
    all_of =
        let less : i + 1 ≤ length replies = omega (arith, within) in
        ap (λ (l : List ReplyTo). spelled l replies) (sym (take-append-drop (i + 1) askers))
        ∙ ap (λ (l : List ReplyValue). spelled (take (i + 1) askers ++ drop (i + 1) askers) l) (sym (take-append-drop (i + 1) replies))
        ∙ both (take (i + 1) askers) (drop (i + 1) askers) (take (i + 1) replies) (drop (i + 1) replies) (fronts (i + 1) less)
        ∙ ap (λ (l : List ℕ). l ++ spelled (drop (i + 1) askers) (drop (i + 1) replies)) one_more

    module _ (a b c : Output) (so_far : Writes a b (spelled (take i askers) (take i replies))) where
      pub told_on : Writes b c own → Writes a c (spelled (take (i + 1) askers) (take (i + 1) replies))
      told_on w = subst (λ (l : List ℕ). Writes a c l) (sym one_more) (writes_then a b c (spelled (take i askers) (take i replies)) own so_far w)

      pub told_fails : Breaks b c own → Breaks a c (spelled askers replies)
      told_fails q = subst (λ (l : List ℕ). Breaks a c l) (sym all_of)
          (breaks_before a c (spelled (take i askers) (take i replies) ++ own) (spelled (drop (i + 1) askers) (drop (i + 1) replies))
          (breaks_after a b c (spelled (take i askers) (take i replies)) own so_far q))

pub stub_spelled : (head fields : List ℕ) → head ≡ last_written → fields ≡ [] → head ++ fields ≡ last_written
stub_spelled head fields is none = ap (λ (l : List ℕ). head ++ l) none ∙ append-nil head ∙ is

-- nothing is put
pub puts_nothing : (o : Output) → o.broken ≡ false → Writes o o (spelled_frames [])
puts_nothing o sound = subst (λ (l : List ℕ). Writes o o l) (sym no_frame) (writes_nothing o sound)
