-- What has left a writer before bodies that come alone.
use Rattle.std.proofs.Common.{◌≡◌, ℕ, ◌+◌, ◌≤◌, Bool, true, List, [], ◌∷◌, ◌++◌, length, refl, sym, ap, ◌∙◌, arith}
use Rattle.std.proofs.lemmas.List.{append-nil, length-append}
use Rattle.oa_stream.specs.promise.Sink.{Output, Writes, Breaks}
use Rattle.oa_frame.specs.promise.Framings.{Frames}
use Rattle.oa_frame.specs.promise.Sessions.{HasLeft, BodiesTurned, TurnOf, but_last, concat_replies, spelled_all}
use Rattle.oa_frame.proofs.Spelled.{spelled_append}

-- ---- replies but the last
but_push : (xs : List (List ℕ)) (x : List ℕ) → but_last (xs ++ x ∷ []) ≡ xs
but_push [] x = refl
but_push (y ∷ []) x = refl
but_push (y ∷ (z ∷ zs)) x = ap (λ (l : List (List ℕ)). y ∷ l) (but_push (z ∷ zs) x)

-- how many bytes one reply more has
one_longer : (s : List ℕ → List ℕ) (x : List ℕ) (xs : List (List ℕ)) → length (spelled_all s (x ∷ xs)) ≡ length (s x) + length (spelled_all s xs)
unfolding spelled_all
one_longer s x xs = length-append (s x) (spelled_all s xs)

no_bytes : (s : List ℕ → List ℕ) → length (spelled_all s []) ≡ 0
unfolding spelled_all
no_bytes s = refl

but_less : (s : List ℕ → List ℕ) (xs : List (List ℕ)) → length (spelled_all s (but_last xs)) ≤ length (spelled_all s xs)
but_less s [] = omega (arith, no_bytes s)
but_less s (x ∷ []) = omega (arith, no_bytes s)
but_less s (x ∷ (y ∷ ys)) = omega (arith, one_longer s x (but_last (y ∷ ys)), one_longer s x (y ∷ ys), but_less s (y ∷ ys))

-- behind what was held, one reply at most
pub but_few : (s : List ℕ → List ℕ) (held own : List (List ℕ)) → length own ≤ 1 → length (spelled_all s (but_last (held ++ own))) ≤ length (spelled_all s held)
but_few s held [] few = let same = append-nil held in rw same (but_less s held)
but_few s held (x ∷ []) few = let same = but_push held x in rw same (omega arith)
but_few s held (x ∷ (y ∷ ys)) few = absurd (omega (arith, few))

-- ---- what has left
pub gone_is : (o q : Output) (bytes : List ℕ) (w : Writes o q bytes) → length w.gone + length q.kept ≡ length o.kept + length bytes
gone_is o q bytes w = sym (length-append w.gone q.kept) ∙ ap length (sym w.whole) ∙ length-append o.kept bytes

pub torn_is : (o q : Output) (bytes : List ℕ) (b : Breaks o q bytes) → length b.gone + length b.lost ≡ length o.kept + length bytes
torn_is o q bytes b = sym (length-append b.gone b.lost) ∙ ap length (sym b.whole) ∙ length-append o.kept bytes

-- a writer takes nothing back
pub kept_less : (o p : Output) → Writes o p [] → length p.kept ≤ length o.kept
kept_less o p w = omega (arith, gone_is o p [] w)

pub writes_more : (o m p q : Output) (xs ys all : List ℕ) (lines : Writes o m xs) (w : Writes p q ys) (now : Writes o q all) → length p.kept ≤ length m.kept
    → length all ≡ length xs + length ys → length lines.gone ≤ length now.gone
writes_more o m p q xs ys all lines w now less long = omega (arith, gone_is o m xs lines, gone_is p q ys w, gone_is o q all now, less, long)

pub breaks_more : (o m p q : Output) (xs ys all : List ℕ) (lines : Writes o m xs) (w : Breaks p q ys) (now : Breaks o q all) → length p.kept ≤ length m.kept
    → length all ≡ length xs + length ys → now.lost ≡ w.lost
    → length lines.gone ≤ length now.gone
breaks_more o m p q xs ys all lines w now less long same =
    omega (arith, gone_is o m xs lines, torn_is p q ys w, torn_is o q all now, less, long, ap length same)

module _ (f : Frames) (barrier : List ℕ → Bool) where
  pub left_more : (n m before : ℕ) (bodies : List (List ℕ)) (handed : List (List (List ℕ))) → n ≤ m → HasLeft f barrier n before bodies handed
      → HasLeft f barrier m before bodies handed
  left_more n m before [] handed more left = tt
  left_more n m before (body ∷ bodies) [] more left = tt
  left_more n m before (body ∷ bodies) (replies ∷ handed) more left = (
    λ is. let here = left.0 is in omega (arith, more, here),
    left_more n m (before + length (spelled_all f.spelled replies)) bodies handed more left.1,
  )

  first_longer : (replies : List (List ℕ)) (handed : List (List (List ℕ))) → length (spelled_all f.spelled (concat_replies (replies ∷ handed))) ≡ length
      (spelled_all f.spelled replies) + length (spelled_all f.spelled (concat_replies handed))
  unfolding concat_replies
  first_longer replies handed = ap length (spelled_append f.spelled replies (concat_replies handed))
      ∙ length-append (spelled_all f.spelled replies) (spelled_all f.spelled (concat_replies handed))

  nothing_handed : length (spelled_all f.spelled (concat_replies [])) ≡ 0
  unfolding concat_replies
  nothing_handed = no_bytes f.spelled

  -- one body more
  pub left_push : {S : Type 0} (turn : TurnOf S) (old mid : S) (gone before : ℕ) (bodies : List (List ℕ)) (handed : List (List (List ℕ))) (body : List ℕ)
      (replies : List (List ℕ)) → BodiesTurned turn old bodies handed mid
      → HasLeft f barrier gone before bodies handed
      → (barrier body ≡ true → before + length (spelled_all f.spelled (concat_replies handed)) + length (spelled_all f.spelled (but_last replies)) ≤ gone)
      → HasLeft f barrier gone before (bodies ++ body ∷ []) (handed ++ replies ∷ [])
  left_push turn old mid gone before [] [] body replies r left here = (λ is. let now = here is in omega (arith, now, nothing_handed), tt)
  left_push turn old mid gone before [] (y ∷ ys) body replies r left here = absurd r
  left_push turn old mid gone before (x ∷ xs) [] body replies r left here = absurd r
  left_push turn old mid gone before (x ∷ xs) (y ∷ ys) body replies r left here = (
    left.0,
    left_push turn r.0 mid gone (before + length (spelled_all f.spelled y)) xs ys body replies r.2 left.1
        (λ is. let now = here is in omega (arith, now, first_longer y ys)),
  )
