-- Replies that are put one after another.
use Rattle.std.proofs.Common.{◌≡◌, ℕ, ◌+◌, ◌<◌, List, [], ◌∷◌, ◌++◌, map, take, drop, length, get_or, refl, sym, ap, ◌∙◌, subst}
use Rattle.std.proofs.lemmas.List.{map-append, map_push, take-append-drop, take_more}
use Rattle.oa_frame.specs.promise.Sessions.{spelled_all}
use Rattle.oa_frame.proofs.Spelled.{spelled_append, spelled_one}
use Rattle.oa_stream.specs.promise.Sink.{Breaks, Output, Writes}
use Rattle.oa_stream.proofs.Stretches.{breaks_after, breaks_before, writes_then}
use Rattle.oa_record.specs.promise.Replies.{ReplyValue, reply_record}

module _ (s : List ℕ → List ℕ) (replies : List ReplyValue) (i : ℕ) (reply : ReplyValue) (within : i < length replies)
    (is : get_or replies i reply ≡ reply) where
  abbrev spelled : List ReplyValue → List ℕ
  spelled rs = spelled_all s (map reply_record rs)

  -- one more
  one_more : spelled (take (i + 1) replies) ≡ spelled (take i replies) ++ s (reply_record reply)
  one_more =
      let here : take (i + 1) replies ≡ take i replies ++ reply ∷ [] = rw (take_more replies i reply within, is) refl in
      ap spelled here ∙ ap (λ (l : List (List ℕ)). spelled_all s l) (map_push reply_record (take i replies) reply)
      ∙ spelled_append s (map reply_record (take i replies)) (reply_record reply ∷ [])
      ∙ ap (λ (l : List ℕ). spelled (take i replies) ++ l) (spelled_one s (reply_record reply))

  -- all of them
  all_of : spelled replies ≡ (spelled (take i replies) ++ s (reply_record reply)) ++ spelled (drop (i + 1) replies)
  all_of = ap spelled (sym (take-append-drop (i + 1) replies))
      ∙ ap (λ (l : List (List ℕ)). spelled_all s l) (map-append reply_record (take (i + 1) replies) (drop (i + 1) replies))
      ∙ spelled_append s (map reply_record (take (i + 1) replies)) (map reply_record (drop (i + 1) replies))
      ∙ ap (λ (l : List ℕ). l ++ spelled (drop (i + 1) replies)) one_more

  module _ (a b c : Output) (so_far : Writes a b (spelled (take i replies))) where
    pub put_one : Writes b c (s (reply_record reply)) → Writes a c (spelled (take (i + 1) replies))
    put_one w = subst (λ (l : List ℕ). Writes a c l) (sym one_more) (writes_then a b c (spelled (take i replies)) (s (reply_record reply)) so_far w)

    pub put_fails : Breaks b c (s (reply_record reply)) → Breaks a c (spelled replies)
    put_fails q =
        subst (λ (l : List ℕ). Breaks a c l) (sym all_of)
        (breaks_before a c (spelled (take i replies) ++ s (reply_record reply)) (spelled (drop (i + 1) replies))
        (breaks_after a b c (spelled (take i replies)) (s (reply_record reply)) so_far q))
