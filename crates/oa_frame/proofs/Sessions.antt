-- A session, body by body, in any framing.
use Rattle.std.proofs.Common.{◌≡◌, ℕ, ◌+◌, ◌≤◌, true, false, List, [], ◌∷◌, ◌++◌, Option, Some, None, length, refl, sym, ap, ◌∙◌, subst}
use Rattle.std.proofs.Common.{inl, inr, ◌⊎◌, arith, Bool, Result, Ok, Err}
use Rattle.std.specs.List.{sum}
use Rattle.std.specs.Result.{is_ok}
use Rattle.std.proofs.lemmas.List.{append-nil, length-append}
use Rattle.std.proofs.lemmas.List.Elements.{All-nil, All-push}
use Rattle.std.proofs.lemmas.List.Sums.{sum_by-append}
use Rattle.std.specs.Io.KnownBytes.{Appends, Keeps}
use Rattle.oa_model.specs.promise.Limits.{max_read_calls, max_records}
use Rattle.oa_stream.specs.promise.Source.{Input, later}
use Rattle.oa_stream.specs.promise.Sink.{Output, Writes, Breaks}
use Rattle.oa_stream.specs.Sink.{Puts, Delivers}
use Rattle.oa_stream.specs.declared.sink.Unwritten.{Unwritten}
use Rattle.oa_stream.proofs.Stretches.{writes_nothing, writes_then, breaks_after, breaks_before, tear, lost_few}
use Rattle.oa_frame.specs.declared.ends.End.{End}
use Rattle.oa_frame.specs.declared.ends.End.TheVariants.{ReadFault, WriteFault}
use Rattle.oa_frame.specs.promise.Known.{Known}
use Rattle.oa_frame.specs.declared.framing.Framing.{Framing}
use Rattle.oa_frame.specs.declared.framing.Framing.TheVariants.{HexLines, Records}
use Rattle.std.proofs.lemmas.Bool.{false≢true}
use Rattle.oa_frame.specs.promise.Framings.{Frames, frames, is_read_fault}
use Rattle.oa_frame.specs.promise.Paces.{HasCause}
use Rattle.oa_frame.specs.Paces.{Paced}
use Rattle.oa_frame.specs.promise.Sessions.{TurnOf, EndOf, BodiesTurned, Bodies, ReadTo, spelled_all, concat_replies}
use Rattle.oa_frame.specs.promise.Sessions.{last_reply, CallsReader, AllHaveLeft, HasLeft, WriterFails, Session}
use Rattle.oa_frame.specs.promise.Sessions.{but_last}
use Rattle.oa_frame.specs.Sessions.{HandsOn, Closes, AnswersApart, AnswersBody, AnswersBy, AnswersNext, FlushesHeld}
use Rattle.oa_frame.specs.Sessions.{IsParted, step, step_by}
use Rattle.oa_frame.specs.declared.session.Loss.{Loss}
use Rattle.oa_frame.specs.declared.session.Loss.TheVariants as loss
use Rattle.oa_frame.specs.promise.Sessions.Halt.{Between, At, Undone}
use Rattle.oa_frame.proofs.Left.{breaks_more, but_few, gone_is, kept_less, left_more, left_push, torn_is, writes_more}
use Rattle.oa_frame.proofs.Spelled.{spelled_append, joined_more, latest_more}

-- what stands of a session while it goes on
pub record SessionSoFar {S : Type 0} (f : Frames) (barrier : List ℕ → Bool) (turn : TurnOf S) (input input' : Input)
    (out out' : Output) (old now : S) (requests : ℕ) : Type 0 where
  pub bodies : List (List ℕ)
  pub handed : List (List (List ℕ))
  pub run : BodiesTurned turn old bodies handed now
  pub count : requests ≡ length bodies
  pub read : Known (λ bytes rest. Bodies f bytes bodies rest) input.left input'.left
  pub calls : CallsReader requests 0 input input'
  pub lines : Writes out out' (spelled_all f.spelled (concat_replies handed))
  pub apart : HasLeft f barrier (length lines.gone) (length out.kept) bodies handed

run_more : {S : Type 0} (turn : TurnOf S) (old mid new : S) (bodies : List (List ℕ)) (handed : List (List (List ℕ))) (body : List ℕ) (replies : List (List ℕ))
    → BodiesTurned turn old bodies handed mid → turn mid body replies new → BodiesTurned turn old (bodies ++ body ∷ []) (handed ++ replies ∷ []) new
run_more turn old mid new [] [] body replies r t = (new, subst (λ from. turn from body replies new) r t, refl)
run_more turn old mid new [] (x ∷ xs) body replies r t = absurd r
run_more turn old mid new (x ∷ xs) [] body replies r t = absurd r
run_more turn old mid new (x ∷ xs) (y ∷ ys) body replies r t = (r.0, r.1, run_more turn r.0 mid new xs ys body replies r.2 t)

bodies_more : (f : Frames) (bytes mid rest : List ℕ) (bodies : List (List ℕ)) (body : List ℕ) → Bodies f bytes bodies mid → f.Next mid body rest
    → Bodies f bytes (bodies ++ body ∷ []) rest
bodies_more f bytes mid rest [] body h n = (rest, subst (λ l. f.Next l body rest) (sym h) n, refl)
bodies_more f bytes mid rest (b ∷ bodies) body h n = (h.0, h.1, bodies_more f h.0 mid rest bodies body h.2 n)

known_more : (f : Frames) (a b c : Option (List ℕ)) (bodies : List (List ℕ)) (body : List ℕ) → Known (λ bytes rest. Bodies f bytes bodies rest) a b
    → Known (λ bytes rest. f.Next bytes body rest) b c → Known (λ bytes rest. Bodies f bytes (bodies ++ body ∷ []) rest) a c
known_more f None b c bodies body h n = tt
known_more f (Some x) None c bodies body h n = absurd h
known_more f (Some x) (Some y) None bodies body h n = absurd n
known_more f (Some x) (Some y) (Some z) bodies body h n = bodies_more f x y z bodies body h n

known_stops : (f : Frames) (a b c : Option (List ℕ)) (bodies : List (List ℕ)) (why : End) → Known (λ bytes rest. Bodies f bytes bodies rest) a b
    → Known (f.Stop why) b c → Known (ReadTo f (At why) bodies) a c
known_stops f None b c bodies why h s = tt
known_stops f (Some x) None c bodies why h s = absurd h
known_stops f (Some x) (Some y) None bodies why h s = absurd s
known_stops f (Some x) (Some y) (Some z) bodies why h s = (y, h, s)

known_undone : (f : Frames) (a b c : Option (List ℕ)) (bodies : List (List ℕ)) (body : List ℕ) → Known (λ bytes rest. Bodies f bytes bodies rest) a b
    → Known (λ bytes rest. f.Next bytes body rest) b c → Known (ReadTo f (Undone body) bodies) a c
known_undone f None b c bodies body h s = tt
known_undone f (Some x) None c bodies body h s = absurd h
known_undone f (Some x) (Some y) None bodies body h s = absurd s
known_undone f (Some x) (Some y) (Some z) bodies body h s = (y, h, s)

known_keeps : (f : Frames) (a b c : Option (List ℕ)) (bodies : List (List ℕ)) → Known (λ bytes rest. Bodies f bytes bodies rest) a b → Keeps b c
    → Known (λ bytes rest. Bodies f bytes bodies rest) a c
known_keeps f None b c bodies h s = tt
known_keeps f (Some x) None c bodies h s = absurd h
known_keeps f (Some x) (Some y) None bodies h s = absurd s
known_keeps f (Some x) (Some y) (Some z) bodies h s = subst (Bodies f x bodies) (sym s) h

known_start : (f : Frames) (a : Option (List ℕ)) → Known (λ bytes rest. Bodies f bytes [] rest) a a
known_start f None = tt
known_start f (Some x) = refl

-- no body was read
no_calls : (i : Input) → CallsReader 0 0 i i
no_calls i = record { each = []; one_each = refl; few = All-nil _; clock = none i.calls }
  where
    none : (n : ℕ) → n ≡ later 0 n
    none n = omega arith

sum_more : (each : List ℕ) (n : ℕ) → sum (each ++ n ∷ []) ≡ sum each + n
sum_more each n = sum_by-append (λ x. x) each (n ∷ []) ∙ ap (λ k. sum each + k) (nothing_before n)
  where
    nothing_before : (n : ℕ) → 0 + n ≡ n
    nothing_before n = omega arith

later_more : (m n a b c : ℕ) → b ≡ later (m + 0) a → c ≡ later n b → c ≡ later (m + n) a
later_more m n a b c e f = omega (arith, e, f)

-- one more was
calls_more : (requests : ℕ) (i j k : Input) (n : ℕ) → CallsReader requests 0 i j → n ≤ max_read_calls → k.calls ≡ later n j.calls
    → CallsReader (requests + 1) 0 i k
calls_more requests i j k n c few clock = record {
  each = c.each ++ n ∷ [];
  one_each = length-append c.each (n ∷ []) ∙ ap (λ l. l + 1) c.one_each;
  few = All-push (λ k. k ≤ max_read_calls) c.each n c.few few;
  clock = rw (sum_more c.each n) (behind_none (sum c.each) n i.calls k.calls (later_more (sum c.each) n i.calls j.calls k.calls c.clock clock));
}
  where
    behind_none : (m n a c : ℕ) → c ≡ later (m + n) a → c ≡ later (m + n + 0) a
    behind_none m n a c e = omega (arith, e)

-- what came behind the last
calls_over : (requests : ℕ) (i j k : Input) (n : ℕ) → CallsReader requests 0 i j → k.calls ≡ later n j.calls → CallsReader requests n i k
calls_over requests i j k n c clock = record {
  each = c.each;
  one_each = c.one_each;
  few = c.few;
  clock = later_more
      (sum c.each) n i.calls j.calls k.calls c.clock clock;
}

pub going_start : {S : Type 0} (f : Frames) (barrier : List ℕ → Bool) (turn : TurnOf S) (i : Input) (o : Output) (state : S) → o.broken ≡ false
    → SessionSoFar f barrier turn i i o o state state 0
unfolding spelled_all concat_replies
going_start f barrier turn i o state h = record {
  bodies = [];
  handed = [];
  run = refl;
  count = refl;
  read = known_start f i.left;
  calls = no_calls i;
  lines = writes_nothing o h;
  apart = tt;
}

-- nothing more was put
same_lines : (a b c : Output) (xs : List ℕ) → Writes a b xs → Writes b c [] → Writes a c xs
same_lines a b c xs p q = subst (Writes a c) (append-nil xs) (writes_then a b c xs [] p q)

module _ {S : Type 0} (f : Frames) (barrier : List ℕ → Bool) (turn : TurnOf S) (ends : EndOf S) (last : List ℕ) (i i' i'' : Input) (o o' : Output) (old mid : S)
    (requests : ℕ) (h : SessionSoFar f barrier turn i i' o o' old mid requests) where
  one_more : (body : List ℕ) → requests + 1 ≡ length (h.bodies ++ body ∷ [])
  one_more body = let e = h.count in rw (length-append h.bodies (body ∷ [])) (omega (arith, e))

  -- the replies at one more body, as they stand on the writer
  more_spelled : (replies : List (List ℕ)) → spelled_all f.spelled (concat_replies (h.handed ++ replies ∷ [])) ≡ spelled_all f.spelled (concat_replies h.handed)
      ++ spelled_all f.spelled replies
  more_spelled replies = ap (spelled_all f.spelled) (joined_more h.handed replies) ∙ spelled_append f.spelled (concat_replies h.handed) replies

  more_long : (replies : List (List ℕ)) → length (spelled_all f.spelled (concat_replies (h.handed ++ replies ∷ []))) ≡ length
      (spelled_all f.spelled (concat_replies h.handed)) + length (spelled_all f.spelled replies)
  more_long replies = ap length (more_spelled replies) ∙ length-append (spelled_all f.spelled (concat_replies h.handed)) (spelled_all f.spelled replies)

  -- a body was read and answered, and the replies were put
  pub going_on : (p q : Output) (new : S) (body : List ℕ) (replies : List (List ℕ)) → Known (λ bytes rest. f.Next bytes body rest) i'.left i''.left
      → Paced false i' i'' → turn mid body replies new → Writes o' p []
      → Writes p q (spelled_all f.spelled replies)
      → (barrier body ≡ true → length q.kept + length (spelled_all f.spelled (but_last replies)) ≤ length (spelled_all f.spelled replies))
      → SessionSoFar f barrier turn i i'' o q old new (requests + 1)
  going_on p q new body replies n pace t v w own =
      let lines : Writes o q (spelled_all f.spelled (concat_replies (h.handed ++ replies ∷ []))) =
      subst (Writes o q) (sym (more_spelled replies)) (writes_then o p q _ _ (same_lines o o' p _ h.lines v) w) in
      let long = more_long replies in
      record {
        bodies = h.bodies ++ body ∷ [];
        handed = h.handed ++ replies ∷ [];
        run = run_more turn old mid new h.bodies h.handed body replies h.run t;
        count = one_more body;
        read = known_more f i.left i'.left i''.left h.bodies body h.read n;
        calls = calls_more requests i i' i'' pace.tries h.calls pace.most pace.clock;
        lines = lines;
        apart = left_push f barrier turn old mid (length lines.gone) (length o.kept) h.bodies h.handed body replies h.run
            (left_more f barrier (length h.lines.gone) (length lines.gone) (length o.kept) h.bodies h.handed
            (writes_more o o' p q _ _ _ h.lines w lines (kept_less o' p v) long) h.apart)
            (λ is. let now = own is in omega (arith, now, gone_is o q _ lines, long));
      }

  -- the writer failed in them
  pub going_fails : (p q : Output) (new new' : S) (body : List ℕ) (replies held : List (List ℕ)) → Known (λ bytes rest. f.Next bytes body rest) i'.left i''.left
      → Paced false i' i'' → turn mid body replies new → Writes o' p []
      → length p.kept ≤ p.back → (w : Breaks p q (spelled_all f.spelled replies))
      → (barrier body ≡ true → length w.lost + length (spelled_all f.spelled (but_last replies)) ≤ length (spelled_all f.spelled replies)) → ends new held new'
      → Session f barrier turn ends last i i'' o q old new' (record { requests = requests + 1; why = WriteFault })
  going_fails p q new new' body replies held n pace t v keeps w own e =
      let put = same_lines o o' p _ h.lines v in
      let all = ap (spelled_all f.spelled) (append-nil (concat_replies (h.handed ++ replies ∷ []))) ∙ more_spelled replies in
      let tears = tear o p q _ _ (spelled_all f.spelled (concat_replies (h.handed ++ replies ∷ []) ++ [])) all put w in
      let long : length (spelled_all f.spelled (concat_replies (h.handed ++ replies ∷ []) ++ [])) ≡ length (spelled_all f.spelled (concat_replies h.handed))
      + length (spelled_all f.spelled replies) =
      ap length all ∙ length-append (spelled_all f.spelled (concat_replies h.handed)) (spelled_all f.spelled replies) in
      record {
        bodies = h.bodies ++ body ∷ [];
        handed = h.handed ++ replies ∷ [];
        held = held;
        mid = new;
        stop = Between;
        over = 0;
        run = run_more turn old mid new h.bodies h.handed body replies h.run t;
        ended = e;
        count = one_more body;
        read = known_more f i.left i'.left i''.left h.bodies body h.read n;
        can = tt;
        calls = calls_more requests i i' i'' pace.tries h.calls pace.most pace.clock;
        few = omega arith;
        cause = pace.cause;
        sound = λ _. tt;
        written = inr (record {
          ended = refl;
          torn = tears.torn;
          few = rw (tears.same, latest_more h.handed replies) (lost_few p q _ o.back w keeps put.back);
          apart = left_push f barrier turn old mid (length tears.torn.gone) (length o.kept) h.bodies h.handed body replies h.run
              (left_more f barrier (length h.lines.gone) (length tears.torn.gone) (length o.kept) h.bodies h.handed
              (breaks_more o o' p q _ _ _ h.lines w tears.torn (kept_less o' p v) long tears.same) h.apart)
              (λ is. let now = own is in omega (arith, now, torn_is o q _ tears.torn, long, ap length tears.same));
        });
      }

  -- the writer failed before a wait
  pub going_waits : (q : Output) (new : S) (held : List (List ℕ)) → Keeps i'.left i''.left → Paced false i' i'' → length o'.kept ≤ o'.back → Breaks o' q []
      → ends mid held new
      → Session f barrier turn ends last i i'' o q old new (record { requests = requests; why = WriteFault })
  going_waits q new held k pace keeps w e =
      let all = ap (spelled_all f.spelled) (append-nil (concat_replies h.handed)) ∙ sym (append-nil (spelled_all f.spelled (concat_replies h.handed))) in
      let tears = tear o o' q _ [] (spelled_all f.spelled (concat_replies h.handed ++ [])) all h.lines w in
      let lost = lost_few o' q [] o.back w keeps h.lines.back in
      record {
        bodies = h.bodies;
        handed = h.handed;
        held = held;
        mid = mid;
        stop = Between;
        over = pace.tries;
        run = h.run;
        ended = e;
        count = h.count;
        read = known_keeps f i.left i'.left i''.left h.bodies h.read k;
        can = tt;
        calls = calls_over requests i i' i'' pace.tries h.calls pace.clock;
        few = pace.most;
        cause = pace.cause;
        sound = λ _. tt;
        written = inr (record {
          ended = refl;
          torn = tears.torn;
          few = rw tears.same (omega (arith, lost));
          apart = left_more f barrier (length h.lines.gone) (length tears.torn.gone) (length o.kept) h.bodies h.handed
              (breaks_more o o' o' q _ [] _ h.lines w tears.torn (omega arith)
              (ap length all ∙ length-append (spelled_all f.spelled (concat_replies h.handed)) []) tears.same) h.apart;
        });
      }

  -- the replies to all bodies and those of the end, as they stand on the writer
  end_spelled : (held : List (List ℕ)) → spelled_all f.spelled (concat_replies h.handed ++ held) ≡ spelled_all f.spelled (concat_replies h.handed)
      ++ spelled_all f.spelled held
  end_spelled held = spelled_append f.spelled (concat_replies h.handed) held

  end_long : (held : List (List ℕ)) → length (spelled_all f.spelled (concat_replies h.handed ++ held)) ≡ length
      (spelled_all f.spelled (concat_replies h.handed)) + length (spelled_all f.spelled held)
  end_long held = ap length (end_spelled held) ∙ length-append (spelled_all f.spelled (concat_replies h.handed)) (spelled_all f.spelled held)

  -- the writer failed in what was held before a body that comes alone
  pub going_undone : (p q : Output) (new : S) (body : List ℕ) (e : Unwritten) → barrier body ≡ true → (w : IsParted f ends (Err e) p q mid new)
      → Known (λ bytes rest. f.Next bytes body rest) i'.left i''.left → Paced false i' i'' → Writes o' p [] → length p.kept ≤ p.back
      → Session f barrier turn ends last i i'' o q old new (record { requests = requests; why = WriteFault })
  going_undone p q new body e is w n pace v keeps =
      let put = same_lines o o' p _ h.lines v in
      let tears = tear o p q _ _ (spelled_all f.spelled (concat_replies h.handed ++ w.held)) (end_spelled w.held) put w.put in
      record {
        bodies = h.bodies;
        handed = h.handed;
        held = w.held;
        mid = mid;
        stop = Undone body;
        over = pace.tries;
        run = h.run;
        ended = w.ended;
        count = h.count;
        read = known_undone f i.left i'.left i''.left h.bodies body h.read n;
        can = is;
        calls = calls_over requests i i' i'' pace.tries h.calls pace.clock;
        few = pace.most;
        cause = pace.cause;
        sound = λ _. tt;
        written = inr (record {
          ended = refl;
          torn = tears.torn;
          few = rw tears.same (lost_few p q _ o.back w.put keeps put.back);
          apart = left_more f barrier (length h.lines.gone) (length tears.torn.gone) (length o.kept) h.bodies h.handed
              (breaks_more o o' p q _ _ _ h.lines w.put tears.torn (kept_less o' p v) (end_long w.held) tears.same) h.apart;
        });
      }

  -- all replies have left the writer where nothing is kept back
  closing : (p q : Output) (why end : End) (held : List (List ℕ)) → Writes o' p [] → length p.kept ≤ p.back
      → HandsOn f.spelled why end (held ++ last_reply last end) p q
      → AllHaveLeft f last why (At end) h.handed held o q ⊎ WriterFails f barrier last why (At end) h.bodies h.handed held o q
  closing p q why end held v keeps (inl c) =
      let all = subst (Writes o q) (sym (end_spelled (held ++ last_reply last end))) (writes_then o p q _ _ (same_lines o o' p _ h.lines v) c.1) in
      let gone : all.gone ≡ o.kept ++ spelled_all f.spelled (concat_replies h.handed ++ (held ++ last_reply last end)) = sym (append-nil all.gone)
      ∙ ap (λ l. all.gone ++ l) (sym c.2.nothing) ∙ sym all.whole in
      inl (record {
        ended = ap (λ w. At w) (sym c.0);
        reached = subst (λ w. Appends o.reached q.reached (o.kept ++ spelled_all f.spelled (concat_replies h.handed ++ (held ++ last_reply last w)))) (sym c.0)
            (subst (Appends o.reached q.reached) gone all.reached);
        handed_on = c.2;
        sound = c.1.sound;
      })
  closing p q why end held v keeps (inr c) =
      let put = same_lines o o' p _ h.lines v in
      let tears = tear o p q _ _ (spelled_all f.spelled (concat_replies h.handed ++ (held ++ last_reply last end)))
      (end_spelled (held ++ last_reply last end)) put c.1 in
      inr (record {
        ended = c.0;
        torn = tears.torn;
        few = rw tears.same (lost_few p q _ o.back c.1 keeps put.back);
        apart = left_more f barrier (length h.lines.gone) (length tears.torn.gone) (length o.kept) h.bodies h.handed
            (breaks_more o o' p q _ _ _ h.lines c.1 tears.torn (kept_less o' p v) (end_long (held ++ last_reply last end)) tears.same) h.apart;
      })

  pub going_closes : (p q : Output) (new : S) (why end : End) (over : ℕ) → f.Can (requests + 1) end → Known (f.Stop end) i'.left i''.left
      → over ≤ max_read_calls → i''.calls ≡ later over i'.calls → HasCause (is_read_fault end) over i''.faulted ⊎ (requests ≡ max_records)
      → (i.steady ≡ true → end ≡ ReadFault → requests ≡ max_records) → Writes o' p [] → length p.kept ≤ p.back → Closes f ends last why end p q mid new
      → Session f barrier turn ends last i i'' o q old new (record { requests = requests; why = why })
  going_closes p q new why end over can k few clock cause sound v keeps w = record {
    bodies = h.bodies;
    handed = h.handed;
    held = w.held;
    mid = mid;
    stop = At end;
    over = over;
    run = h.run;
    ended = w.ended;
    count = h.count;
    read = known_stops f i.left i'.left i''.left h.bodies end h.read k;
    can = can;
    calls = calls_over requests i i' i'' over h.calls clock;
    few = few;
    cause = cause;
    sound = sound;
    written = closing p q why end w.held v keeps w.closed;
  }

-- what was done before a body, and then at it
stepped_by : {S : Type 0} (turn : TurnOf S) (ends : EndOf S) (b : Bool) (old mid new : S) (body : List ℕ) (held own : List (List ℕ)) → b ≡ true
    → ends old held mid → turn mid body own new → step_by b turn ends old body (held ++ own) new
stepped_by turn ends true old mid new body held own is e t = record { held = held; own = own; between = mid; ended = e; turned = t; are = refl }
stepped_by turn ends false old mid new body held own is e t = absurd (false≢true is)

together_by : {S : Type 0} (turn : TurnOf S) (ends : EndOf S) (b : Bool) (old new : S) (body : List ℕ) (own : List (List ℕ)) → b ≡ false → turn old body own new
    → step_by b turn ends old body own new
together_by turn ends true old new body own is t = absurd (false≢true (sym is))
together_by turn ends false old new body own is t = t

-- what of the bytes that were put has not left: what is kept back, or what is lost
abbrev pub behind : (result : Result (Unit {0}) Unwritten) (o q : Output) (bytes : List ℕ) → Puts result o q bytes → ℕ
behind (Ok u) o q bytes w = length q.kept
behind (Err e) o q bytes b = length b.lost

-- Of the replies at a body that comes alone no more than its own are among them.
pub record Stepped {S : Type 0} (f : Frames) (barrier : List ℕ → Bool) (turn : TurnOf S) (ends : EndOf S) (result : Result (Unit {0}) Unwritten) (body : List ℕ)
    (o q : Output) (old new : S) : Type 0 where
  pub answers : AnswersBody f (step barrier turn ends) result body o q old new
  pub own : barrier body ≡ true → behind result o q (spelled_all f.spelled answers.replies) answers.put + length
      (spelled_all f.spelled (but_last answers.replies)) ≤ length (spelled_all f.spelled answers.replies)

-- a body that comes alone, behind what was held
stepped_apart : {S : Type 0} (f : Frames) (barrier : List ℕ → Bool) (turn : TurnOf S) (ends : EndOf S) (result : Result (Unit {0}) Unwritten) (body : List ℕ)
    (o q : Output) (old new : S) → barrier body ≡ true → AnswersApart f turn ends result body o q old new
    → Stepped f barrier turn ends result body o q old new
stepped_apart f barrier turn ends (Ok u) body o q old new is a =
    let held = a.parted.held in
    let own = a.own.answers in
    let long = ap length (spelled_append f.spelled held own.replies) ∙ length-append (spelled_all f.spelled held) (spelled_all f.spelled own.replies) in
    record {
      answers = record {
        replies = held ++ own.replies;
        turned = stepped_by turn ends (barrier body) old a.mid new body held own.replies is a.parted.ended own.turned;
        put = subst (Writes o q) (sym (spelled_append f.spelled held own.replies)) (writes_then o a.between q _ _ a.parted.put.0 own.put);
      };
      own = λ _. omega (arith, long, but_few f.spelled held own.replies a.own.one, gone_is a.between q _ own.put, ap length a.parted.put.1.nothing);
    }
stepped_apart f barrier turn ends (Err e) body o q old new is a =
    let held = a.parted.held in
    let own = a.own.answers in
    let long = ap length (spelled_append f.spelled held own.replies) ∙ length-append (spelled_all f.spelled held) (spelled_all f.spelled own.replies) in
    let tears = tear o a.between q _ _ (spelled_all f.spelled (held ++ own.replies)) (spelled_append f.spelled held own.replies) a.parted.put.0 own.put in
    record {
      answers = record {
        replies = held ++ own.replies;
        turned = stepped_by turn ends (barrier body) old a.mid new body held own.replies is a.parted.ended own.turned;
        put = tears.torn;
      };
      own =
          λ _. omega (
            arith,
            long,
            but_few f.spelled held own.replies a.own.one,
            torn_is a.between q _ own.put,
            ap length a.parted.put.1.nothing,
            ap length tears.same,
          );
    }

stepped_together : {S : Type 0} (f : Frames) (barrier : List ℕ → Bool) (turn : TurnOf S) (ends : EndOf S) (result : Result (Unit {0}) Unwritten) (body : List ℕ)
    (o q : Output) (old new : S) → barrier body ≡ false → AnswersBody f turn result body o q old new
    → Stepped f barrier turn ends result body o q old new
stepped_together f barrier turn ends result body o q old new is a = record {
  answers = record { replies = a.replies; turned = together_by turn ends (barrier body) old new body a.replies is a.turned; put = a.put };
  own = λ alone_is. absurd (false≢true (sym is ∙ alone_is));
}

pub stepped : {S : Type 0} (f : Frames) (barrier : List ℕ → Bool) (turn : TurnOf S) (ends : EndOf S) (result : Result (Unit {0}) Unwritten) (body : List ℕ)
    (o q : Output) (old new : S) → AnswersBy (barrier body) f turn ends result body o q old new
    → Stepped f barrier turn ends result body o q old new
stepped {S} f barrier turn ends result body o q old new a = by (barrier body) refl a
  where
    by : (b : Bool) → barrier body ≡ b → AnswersBy b f turn ends result body o q old new → Stepped f barrier turn ends result body o q old new
    by true is a = stepped_apart f barrier turn ends result body o q old new is a
    by false is a = stepped_together f barrier turn ends result body o q old new is a

-- all was put and handed on, or not handed on
pub writes_late : (a b c : Output) (xs : List ℕ) → Writes a b xs → Writes b c [] → Writes a c xs
writes_late a b c xs p q = same_lines a b c xs p q

pub breaks_late : (a b c : Output) (xs : List ℕ) → Writes a b xs → Breaks b c [] → Breaks a c xs
breaks_late a b c xs p q = subst (Breaks a c) (append-nil xs) (breaks_after a b c xs [] p q)

-- what was held was put, and what comes behind it went so
pub hands_behind : (s : List ℕ → List ℕ) (result why : End) (held replies : List (List ℕ)) (o p q : Output) → Writes o p (spelled_all s held)
    → HandsOn s result why replies p q → HandsOn s result why (held ++ replies) o q
hands_behind s result why held replies o p q v (inl c) = inl (c.0, subst (Writes o q) (sym (spelled_append s held replies)) (writes_then o p q _ _ v c.1), c.2)
hands_behind s result why held replies o p q v (inr c) = inr (c.0, subst (Breaks o q) (sym (spelled_append s held replies)) (breaks_after o p q _ _ v c.1))

-- the writer failed in what was held
pub held_breaks : (s : List ℕ → List ℕ) (held replies : List (List ℕ)) (o q : Output) → Breaks o q (spelled_all s held)
    → Breaks o q (spelled_all s (held ++ replies))
held_breaks s held replies o q b = subst (Breaks o q) (sym (spelled_append s held replies)) (breaks_before o q _ _ b)

-- an end that is no fault of the reader
pub sound_end : (end : End) (requests : ℕ) → is_read_fault end ≡ false → end ≡ ReadFault → requests ≡ max_records
sound_end end requests sound is = absurd (false≢true (sym sound ∙ ap is_read_fault is))

-- the records are used up: nothing of a further one is read
pub known_over : (f : Framing) (a : Option (List ℕ)) → Known ((frames f).Stop ReadFault) a a
known_over f None = tt
known_over HexLines (Some x) = record { part = []; whole = refl; free = λ i _ below. absurd (omega (arith, below)) }
known_over Records (Some x) = record { part = []; whole = refl; few = inl (omega arith) }

pub can_over : (f : Framing) (requests : ℕ) → (frames f).Can (requests + 1) ReadFault
can_over HexLines requests = tt
can_over Records requests = tt

pub writes_none : (o : Output) → o.broken ≡ false → Writes o o []
writes_none o h = writes_nothing o h

pub no_call : (n : ℕ) → n ≡ later 0 n
no_call n = omega arith

-- what was held was put before a body that comes alone, and all was handed on, or the writer failed then
pub parted_on : {S : Type 0} (f : Frames) (ends : EndOf S) (u : Unit {0}) (result : Result (Unit {0}) Unwritten) (o p q : Output) (old new : S)
    → FlushesHeld f ends (Ok u) o p old new → Delivers result p q → IsParted f ends result o q old new
parted_on f ends u (Ok v) o p q old new a d = record { held = a.held; ended = a.ended; put = (writes_late o p q _ a.put d.0, d.1) }
parted_on f ends u (Err e) o p q old new a d = record { held = a.held; ended = a.ended; put = breaks_late o p q _ a.put d }

-- a body that comes alone was answered behind what was held, or the writer failed in it
pub next_apart : {S : Type 0} (f : Frames) (barrier : List ℕ → Bool) (turn : TurnOf S) (ends : EndOf S) (put : Result (Unit {0}) Unwritten)
    (result : Result (Unit {0}) Loss) (body : List ℕ) (o q : Output) (old new : S)
    → barrier body ≡ true → is_ok result ≡ is_ok put → ((l : Loss) → result ≡ Err l → l ≡ loss.Answered) → AnswersApart f turn ends put body o q old new
    → AnswersNext f barrier turn ends result body o q old new
next_apart f barrier turn ends (Ok u) (Ok v) body o q old new is same lost a = rw is a
next_apart f barrier turn ends (Err e) (Err loss.Answered) body o q old new is same lost a = (e, rw is a)
next_apart f barrier turn ends (Err e) (Err loss.Undone) body o q old new is same lost a = absurd (let h = lost loss.Undone refl in cc)
next_apart f barrier turn ends (Ok u) (Err l) body o q old new is same lost a = absurd (false≢true same)
next_apart f barrier turn ends (Err e) (Ok v) body o q old new is same lost a = absurd (false≢true (sym same))
