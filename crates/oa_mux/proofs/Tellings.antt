-- What is handed out at one turn after another, and what is lost of it.
use Rattle.std.proofs.Common.{◌≡◌, ℕ, ◌+◌, ◌≤◌, false, List, [], ◌∷◌, ◌++◌, length, Result, Ok, Err, IsErr, refl, sym, ap, ◌∙◌, subst, arith}
use Rattle.std.proofs.lemmas.Bool.{false≢true}
use Rattle.std.proofs.lemmas.List.{append-nil, append_assoc, length-append}
use Rattle.oa_stream.specs.promise.Sink.{Output, Writes, Breaks, IsHandedOn}
use Rattle.oa_stream.specs.Sink.{Delivers}
use Rattle.oa_stream.specs.declared.sink.Unwritten.{Unwritten}
use Rattle.oa_stream.proofs.Stretches.{lost_few, tear, writes_nothing, writes_then}
use Rattle.oa_mux.specs.Answering.{AnswersClient, GivesUp}
use Rattle.oa_mux.specs.promise.Answering.{SharedTurn}
use Rattle.oa_mux.specs.promise.Marks.{Flush, Of, Tagged}
use Rattle.oa_mux.specs.promise.Outgoing.{spelled_frames, spelled_told}
use Rattle.oa_mux.specs.promise.Readers.{Brought}
use Rattle.oa_mux.specs.promise.Talking.{AllTurned, HasLeftAtNow, HasTold, LosesWriter, newest}
use Rattle.oa_mux.specs.Talking.{MakesNow}

-- how much has left a writer
gone_is : (o q : Output) (bytes : List ℕ) (w : Writes o q bytes) → length w.gone + length q.kept ≡ length o.kept + length bytes
gone_is o q bytes w = sym (length-append w.gone q.kept) ∙ ap length (sym w.whole) ∙ length-append o.kept bytes

torn_is : (o q : Output) (bytes : List ℕ) (b : Breaks o q bytes) → length b.gone + length b.lost ≡ length o.kept + length bytes
torn_is o q bytes b = sym (length-append b.gone b.lost) ∙ ap length (sym b.whole) ∙ length-append o.kept bytes

-- ---- what is spelled
told_append : (xs ys : List (List (ℕ × List ℕ))) → spelled_told (xs ++ ys) ≡ spelled_told xs ++ spelled_told ys
unfolding spelled_told
told_append [] ys = refl
told_append (x ∷ xs) ys = ap (λ l. spelled_frames x ++ l) (told_append xs ys) ∙ sym (append_assoc (spelled_frames x) (spelled_told xs) (spelled_told ys))

told_long : (xs ys : List (List (ℕ × List ℕ))) → length (spelled_told (xs ++ ys)) ≡ length (spelled_told xs) + length (spelled_told ys)
told_long xs ys = ap length (told_append xs ys) ∙ length-append (spelled_told xs) (spelled_told ys)

told_one : (x : List (ℕ × List ℕ)) → spelled_told (x ∷ []) ≡ spelled_frames x
unfolding spelled_told
told_one x = append-nil (spelled_frames x)

told_head : (x : List (ℕ × List ℕ)) (xs : List (List (ℕ × List ℕ))) → length (spelled_told (x ∷ xs)) ≡ length (spelled_frames x) + length (spelled_told xs)
unfolding spelled_told
told_head x xs = length-append (spelled_frames x) (spelled_told xs)

told_none : length (spelled_told []) ≡ 0
unfolding spelled_told
told_none = refl

nothing_told : spelled_told [] ≡ []
unfolding spelled_told
nothing_told = refl

nothing_framed : length (spelled_frames []) ≡ 0
unfolding spelled_frames
nothing_framed = refl

-- the newest of two parts has no fewer bytes than that of the second
newest_behind : (xs ys : List (List (ℕ × List ℕ))) → length (spelled_frames (newest ys)) ≤ length (spelled_frames (newest (xs ++ ys)))
newest_behind [] ys = omega arith
newest_behind (x ∷ []) [] = omega (arith, nothing_framed)
newest_behind (x ∷ []) (y ∷ ys) = omega arith
newest_behind (x ∷ (z ∷ zs)) ys = newest_behind (z ∷ zs) ys

-- ---- runs
module _ {S : Type 0} (turn : SharedTurn S) where
  pub run_then : (old mid new : S) (ps qs : List (Tagged Brought)) (xs ys : List (List (ℕ × List ℕ))) → AllTurned turn old ps xs mid
      → AllTurned turn mid qs ys new → AllTurned turn old (ps ++ qs) (xs ++ ys) new
  run_then old mid new [] qs [] ys r s = subst (λ from. AllTurned turn from qs ys new) r s
  run_then old mid new [] qs (x ∷ xs) ys r s = absurd r
  run_then old mid new (a ∷ ps) qs [] ys r s = absurd r
  run_then old mid new (a ∷ ps) qs (x ∷ xs) ys r s = (r.0, r.1, run_then r.0 mid new ps qs xs ys r.2 s)

  -- ---- what had left at each *now*
  pub left_more : (gone gone' before : ℕ) (ps : List (Tagged Brought)) (xs : List (List (ℕ × List ℕ))) → gone ≤ gone' → HasLeftAtNow gone before ps xs
      → HasLeftAtNow gone' before ps xs
  left_more gone gone' before [] xs h l = tt
  left_more gone gone' before (a ∷ ps) [] h l = tt
  left_more gone gone' before (Flush ∷ ps) (x ∷ xs) h l =
      (let here = l.0 in omega (arith, h, here), left_more gone gone' (before + length (spelled_frames x)) ps xs h l.1)
  left_more gone gone' before (Of client y ∷ ps) (x ∷ xs) h l = left_more gone gone' (before + length (spelled_frames x)) ps xs h l

  pub left_shift : (gone before k : ℕ) (ps : List (Tagged Brought)) (xs : List (List (ℕ × List ℕ))) → HasLeftAtNow gone before ps xs
      → HasLeftAtNow (gone + k) (before + k) ps xs
  left_shift gone before k [] xs l = tt
  left_shift gone before k (a ∷ ps) [] l = tt
  left_shift gone before k (Flush ∷ ps) (x ∷ xs) l =
      let here = l.0 in (
        omega (arith, here),
        subst (λ n. HasLeftAtNow (gone + k) n ps xs) (swapped before (length (spelled_frames x)) k)
            (left_shift gone (before + length (spelled_frames x)) k ps xs l.1),
      )
    where
      swapped : (a b c : ℕ) → a + b + c ≡ a + c + b
      swapped a b c = omega arith
  left_shift gone before k (Of client y ∷ ps) (x ∷ xs) l = subst (λ n. HasLeftAtNow (gone + k) n ps xs) (swapped before (length (spelled_frames x)) k)
      (left_shift gone (before + length (spelled_frames x)) k ps xs l)
    where
      swapped : (a b c : ℕ) → a + b + c ≡ a + c + b
      swapped a b c = omega arith

  pub left_then : (old mid : S) (gone before between : ℕ) (ps qs : List (Tagged Brought)) (xs ys : List (List (ℕ × List ℕ))) → AllTurned turn old ps xs mid
      → between ≡ before + length (spelled_told xs)
      → HasLeftAtNow gone before ps xs → HasLeftAtNow gone between qs ys → HasLeftAtNow gone before (ps ++ qs) (xs ++ ys)
  left_then old mid gone before between [] qs [] ys r e l m = subst (λ n. HasLeftAtNow gone n qs ys) (omega (arith, e, told_none)) m
  left_then old mid gone before between [] qs (x ∷ xs) ys r e l m = absurd r
  left_then old mid gone before between (a ∷ ps) qs [] ys r e l m = absurd r
  left_then old mid gone before between (Flush ∷ ps) qs (x ∷ xs) ys r e l m =
      (l.0, left_then r.0 mid gone (before + length (spelled_frames x)) between ps qs xs ys r.2 (omega (arith, e, told_head x xs)) l.1 m)
  left_then old mid gone before between (Of client y ∷ ps) qs (x ∷ xs) ys r e l m =
      left_then r.0 mid gone (before + length (spelled_frames x)) between ps qs xs ys r.2 (omega (arith, e, told_head x xs)) l m

  -- ---- what was told, one part after another
  pub told_nothing : (o : Output) (state : S) → o.broken ≡ false → HasTold turn [] o o state state
  told_nothing o state h = record { tolds = []; run = refl; written = subst (Writes o o) (sym nothing_told) (writes_nothing o h); left = tt }

  -- only handed on
  pub told_quiet : (o p : Output) (state : S) → Writes o p [] → HasTold turn [] o p state state
  told_quiet o p state w = record { tolds = []; run = refl; written = subst (Writes o p) (sym nothing_told) w; left = tt }

  pub told_then : (ps qs : List (Tagged Brought)) (o p q : Output) (old mid new : S) → HasTold turn ps o p old mid → HasTold turn qs p q mid new
      → HasTold turn (ps ++ qs) o q old new
  told_then ps qs o p q old mid new a b =
      let w : Writes o q (spelled_told (a.tolds ++ b.tolds)) = subst (Writes o q) (sym (told_append a.tolds b.tolds))
      (writes_then o p q _ _ a.written b.written) in
      let one = gone_is o p _ a.written in
      let two = gone_is p q _ b.written in
      let all = gone_is o q _ w in
      let long = told_long a.tolds b.tolds in
      let more : HasLeftAtNow (length w.gone) (length p.kept + length a.written.gone) qs b.tolds =
      subst (λ n. HasLeftAtNow n (length p.kept + length a.written.gone) qs b.tolds) (omega (arith, one, two, all, long))
      (left_shift (length b.written.gone) (length p.kept) (length a.written.gone) qs b.tolds b.left) in
      record {
        tolds = a.tolds ++ b.tolds;
        run = run_then old mid new ps qs a.tolds b.tolds a.run b.run;
        written = w;
        left = left_then old mid (length w.gone) (length o.kept) (length p.kept + length a.written.gone) ps qs a.tolds b.tolds a.run (omega (arith, one))
            (left_more (length a.written.gone) (length w.gone) (length o.kept) ps a.tolds (omega (arith, one, two, all, long)) a.left) more;
      }

  run_apart : (old new : S) (ps qs ends : List (Tagged Brought)) (xs given unheard : List (List (ℕ × List ℕ)))
      → AllTurned turn old (ps ++ (qs ++ ends)) (xs ++ (given ++ unheard)) new
      → AllTurned turn old ((ps ++ qs) ++ ends) ((xs ++ given) ++ unheard) new
  run_apart old new ps qs ends xs given unheard r =
      subst (λ l. AllTurned turn old l ((xs ++ given) ++ unheard) new) (sym (append_assoc ps qs ends))
      (subst (λ l. AllTurned turn old (ps ++ (qs ++ ends)) l new) (sym (append_assoc xs given unheard)) r)

  pub loses_then : (ps qs ends : List (Tagged Brought)) (o p q : Output) (old mid new : S) → HasTold turn ps o p old mid → LosesWriter turn qs ends p q mid new
      → LosesWriter turn (ps ++ qs) ends o q old new
  loses_then ps qs ends o p q old mid new a b =
      let tears = tear o p q _ _ (spelled_told (a.tolds ++ b.given)) (told_append a.tolds b.given) a.written b.torn in
      let one = gone_is o p _ a.written in
      let two = torn_is p q _ b.torn in
      let all = torn_is o q _ tears.torn in
      let same = ap length tears.same in
      let long = told_long a.tolds b.given in
      let few = b.few in
      let back = a.written.back in
      let newer = newest_behind a.tolds b.given in
      let more : HasLeftAtNow (length tears.torn.gone) (length p.kept + length a.written.gone) qs b.given =
      subst (λ n. HasLeftAtNow n (length p.kept + length a.written.gone) qs b.given) (omega (arith, one, two, all, same, long))
      (left_shift (length b.torn.gone) (length p.kept) (length a.written.gone) qs b.given b.left) in
      record {
        given = a.tolds ++ b.given;
        unheard = b.unheard;
        run = run_apart old new ps qs (ends ++ Flush ∷ []) a.tolds b.given b.unheard
            (run_then old mid new ps (qs ++ (ends ++ Flush ∷ [])) a.tolds (b.given ++ b.unheard) a.run b.run);
        one = b.one;
        torn = tears.torn;
        few = omega (arith, few, back, newer, same);
        left = left_then old mid (length tears.torn.gone) (length o.kept) (length p.kept + length a.written.gone) ps qs a.tolds b.given a.run
            (omega (arith, one))
            (left_more (length a.written.gone) (length tears.torn.gone) (length o.kept) ps a.tolds (omega (arith, one, two, all, same, long)) a.left) more;
      }

  -- what was asked were ends
  pub as_ends : (ps : List (Tagged Brought)) (o q : Output) (old new : S) → LosesWriter turn ps [] o q old new → LosesWriter turn [] ps o q old new
  as_ends ps o q old new a = record { given = a.given; unheard = a.unheard; run = a.run; one = a.one; torn = a.torn; few = a.few; left = tt }

  -- ---- one turn
  pub told_once : (client : ℕ) (x : Brought) (u : Unit {0}) (o p : Output) (old new : S) → AnswersClient turn (Ok u) (Of client x) o p old new
      → HasTold turn (Of client x ∷ []) o p old new
  told_once client x u o p old new a = record {
    tolds = a.told ∷ [];
    run = (new, a.turned, refl);
    written = subst (Writes o p) (sym (told_one a.told)) a.put;
    left = tt;
  }

  -- the writer failed in it
  pub loses_once : (client : ℕ) (x : Brought) (fault : Unwritten) (o q : Output) (old mid new : S) → length o.kept ≤ o.back
      → AnswersClient turn (Err fault) (Of client x) o q old mid → GivesUp turn mid new → LosesWriter turn (Of client x ∷ []) [] o q old new
  loses_once client x fault o q old mid new keeps a g =
      let torn : Breaks o q (spelled_told (a.told ∷ [])) = subst (Breaks o q) (sym (told_one a.told)) a.put in
      let few = lost_few o q _ o.back torn keeps refl in
      let long = ap length (told_one a.told) in
      record {
        given = a.told ∷ [];
        unheard = g.told ∷ [];
        run = (mid, a.turned, (new, g.turned, refl));
        one = omega arith;
        torn = torn;
        few = omega (arith, few, long);
        left = tt;
      }

  -- it failed where all was to be handed on
  pub loses_quiet : (o q : Output) (old new : S) → length o.kept ≤ o.back → Breaks o q [] → GivesUp turn old new → LosesWriter turn [] [] o q old new
  loses_quiet o q old new keeps b g =
      let torn : Breaks o q (spelled_told []) = subst (Breaks o q) (sym nothing_told) b in
      let few = lost_few o q _ o.back torn keeps refl in
      record {
        given = [];
        unheard = g.told ∷ [];
        run = (new, g.turned, refl);
        one = omega arith;
        torn = torn;
        few = omega (arith, few, told_none, nothing_framed);
        left = tt;
      }

  -- ---- *now*
  pub told_now : (u : Unit {0}) (o p q : Output) (old new : S) → AnswersClient turn (Ok u) Flush o p old new → Writes p q [] → IsHandedOn q
      → HasTold turn (Flush ∷ []) o q old new
  told_now u o p q old new a w h =
      let all : Writes o q (spelled_told (a.told ∷ [])) = subst (Writes o q) (append-nil (spelled_frames a.told) ∙ sym (told_one a.told))
      (writes_then o p q _ _ a.put w) in
      let gone = gone_is o q _ all in
      let none = ap length h.nothing in
      let long = ap length (told_one a.told) in
      record { tolds = a.told ∷ []; run = (new, a.turned, refl); written = all; left = (omega (arith, gone, none, long), tt) }

  pub loses_now : (fault : Unwritten) (o q : Output) (old new : S) → length o.kept ≤ o.back → AnswersClient turn (Err fault) Flush o q old new
      → LosesWriter turn [] [] o q old new
  loses_now fault o q old new keeps a =
      let torn : Breaks o q (spelled_told (a.told ∷ [])) = subst (Breaks o q) (sym (told_one a.told)) a.put in
      let few = lost_few o q _ o.back torn keeps refl in
      let long = ap length (told_one a.told) in
      record { given = a.told ∷ []; unheard = []; run = (new, a.turned, refl); one = omega arith; torn = torn; few = omega (arith, few, long); left = tt }

  pub loses_delivery : (u : Unit {0}) (o p q : Output) (old new : S) → length p.kept ≤ p.back → AnswersClient turn (Ok u) Flush o p old new → Breaks p q []
      → LosesWriter turn [] [] o q old new
  loses_delivery u o p q old new keeps a b =
      let tears = tear o p q _ [] (spelled_told (a.told ∷ [])) (told_one a.told ∙ sym (append-nil (spelled_frames a.told))) a.put b in
      let few = lost_few p q [] o.back b keeps a.put.back in
      let same = ap length tears.same in
      record { given = a.told ∷ []; unheard = []; run = (new, a.turned, refl); one = omega arith; torn = tears.torn; few = omega (arith, few, same); left = tt }

  pub now_delivers : (u : Unit {0}) (result : Result (Unit {0}) Unwritten) (o p q : Output) (old new : S) → length p.kept ≤ p.back
      → AnswersClient turn (Ok u) Flush o p old new → Delivers result p q → MakesNow turn result o q old new
  now_delivers u (Ok v) o p q old new keeps a d = (told_now u o p q old new a d.0 d.1, d.1)
  now_delivers u (Err f) o p q old new keeps a d = loses_delivery u o p q old new keeps a d

  pub now_breaks : (result : Result (Unit {0}) Unwritten) (fault : Unwritten) (o q : Output) (old new : S) → IsErr result → length o.kept ≤ o.back
      → AnswersClient turn (Err fault) Flush o q old new → MakesNow turn result o q old new
  now_breaks (Ok u) fault o q old new is keeps a = absurd (false≢true is)
  now_breaks (Err f) fault o q old new is keeps a = loses_now fault o q old new keeps a
