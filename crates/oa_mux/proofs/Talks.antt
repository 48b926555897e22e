-- A session of many clients, part by part.
use Rattle.std.proofs.Common.{◌≡◌, ◌⊎◌, inl, inr, ℕ, ◌+◌, ◌<◌, ◌≤◌, Bool, true, false, List, [], ◌∷◌, ◌++◌, length, take, Option, Some, None, Result, Ok, Err}
use Rattle.std.proofs.Common.{IsErr, refl, sym, ap, ◌∙◌, subst, arith}
use Rattle.std.proofs.lemmas.Bool.{false≢true}
use Rattle.std.specs.Prelude.{if◌then◌else◌}
use Rattle.std.proofs.lemmas.List.{append-nil, append_assoc, length-append, length-take-le}
use Rattle.std.proofs.KnownBytes.{Consumes-kept, Consumes-nil, Consumes-trans}
use Rattle.std.specs.Io.KnownBytes.{Consumes, IsAtEnd}
use Rattle.oa_model.specs.promise.Limits.{max_records}
use Rattle.oa_stream.specs.promise.Source.{Input, later}
use Rattle.oa_stream.specs.BufferedSource.{TakesAhead, Waits}
use Rattle.oa_stream.specs.BufferedSource as ahead
use Rattle.oa_stream.specs.declared.ahead.More.{More}
use Rattle.oa_stream.specs.declared.ahead.More.TheVariants as more
use Rattle.oa_frame.specs.declared.ends.End.{End}
use Rattle.oa_stream.specs.promise.Sink.{Output, Writes, IsHandedOn}
use Rattle.oa_stream.specs.declared.sink.Unwritten.{Unwritten}
use Rattle.oa_mux.specs.promise.Answering.{SharedTurn}
use Rattle.oa_mux.specs.promise.Frames.{Broken, FramePlace, InHead, Within}
use Rattle.oa_mux.specs.promise.Marks.{Flush, Of, Tagged, tag_all}
use Rattle.oa_mux.specs.Steps.{EndsLowest, EndsWith, brought_last}
use Rattle.oa_mux.specs.promise.Readers.{Body, Brought, ClientState, Ends}
use Rattle.oa_mux.specs.promise.Shared.{Demultiplexes, IsClients, Rises, SharedState, StopsAtUnknown, place_behind}
use Rattle.oa_mux.specs.promise.Shared.{reads_nothing}
use Rattle.oa_mux.specs.Shared.{TakesSome, arrived}
use Rattle.oa_mux.specs.declared.streams.DemuxItem.{DemuxItem}
use Rattle.oa_mux.specs.declared.streams.DemuxItem.TheVariants as things
use Rattle.oa_mux.specs.promise.Talking.{AllTurned, FailsToTell, HasTold, IsEndOf, LosesWriter, ServesClients, TellsAll}
use Rattle.oa_mux.specs.promise.Talking.{ends_at, ends_in, input_end, parted, parting}
use Rattle.oa_mux.specs.Talking.{AnswersAsked, AnswersEnds, AnswersSingle, ClosesAll, EndsNext, MovesOn, IsLastPart}
use Rattle.oa_mux.specs.Talking.{IsUnwritten, TalksOn, one_ahead}
use Rattle.oa_frame.specs.declared.session.Loss.{Loss}
use Rattle.oa_frame.specs.declared.session.Loss.TheVariants as loss
use Rattle.oa_mux.specs.declared.session_end.SessionEnd.{SessionEnd}
use Rattle.oa_mux.specs.declared.session_end.SessionEnd.TheVariants as over
use Rattle.oa_mux.proofs.Taking.{asks_then, nothing_asked, stops_none, stops_then}
use Rattle.oa_mux.proofs.Tellings.{as_ends, loses_then, told_nothing, told_quiet, told_then}

-- ---- bodies that come alone
pub parted_append : (barrier : List ℕ → Bool) (ps qs : List (Tagged Brought)) → parted barrier (ps ++ qs) ≡ parted barrier ps ++ parted barrier qs
unfolding parted
parted_append barrier [] qs = refl
parted_append barrier (a ∷ ps) qs = ap (λ l. parting barrier a ++ a ∷ l) (parted_append barrier ps qs)
    ∙ sym (append_assoc (parting barrier a) (a ∷ parted barrier ps) (parted barrier qs))

pub parted_none : (barrier : List ℕ → Bool) → parted barrier [] ≡ []
unfolding parted
parted_none barrier = refl

-- ---- one part of a session after another
pub later_then : (m n a b c : ℕ) → b ≡ later m a → c ≡ later n b → c ≡ later (m + n) a
later_then m n a b c e f = omega (arith, e, f)

pub stops_on : (from mid : SharedState) (xs ys : List ℕ) (asked : List (Tagged Brought)) → Demultiplexes from xs asked mid → StopsAtUnknown from.place xs
    → StopsAtUnknown mid.place ys → StopsAtUnknown from.place (xs ++ ys)
stops_on from mid xs ys asked t a b = stops_then from.place xs ys a (subst (λ p. StopsAtUnknown p ys) (sym t.place) b)

pub end_later : (why : SessionEnd) (place : FramePlace) (used used' : ℕ) (i : Input) → used ≤ used' → IsEndOf why place used i → IsEndOf why place used' i
end_later over.Closed place used used' i h e = e
end_later over.Cut place used used' i h e = e
end_later over.Unknown place used used' i h e = e
end_later over.Memory place used used' i h e = e
end_later over.ReadFault place used used' i h (inl f) = inl f
end_later over.ReadFault place used used' i h (inr f) = inr (omega (arith, h, f))
end_later over.WriteFault place used used' i h e = absurd e

module _ {S : Type 0} (barrier : List ℕ → Bool) (turn : SharedTurn S) where
  abbrev pub talks_start : (from : SharedState) (i : Input) (o : Output) (state : S) → Demultiplexes from [] [] from → o.broken ≡ false
      → TalksOn barrier turn from from i i o o state state
  talks_start from i o state t h = record {
    taken = [];
    asked = [];
    calls = 0;
    read = Consumes-nil i.left;
    apart = t;
    stops = stops_none from.place;
    clock = none i.calls;
    steady = λ s. s;
    told = subst (λ l. HasTold turn l o o state state) (sym (parted_none barrier)) (told_nothing turn o state h);
  }
    where
      none : (n : ℕ) → n ≡ later 0 n
      none n = omega arith

  abbrev pub talks_then : (from mid to : SharedState) (i j k : Input) (o p q : Output) (old between new : S) → TalksOn barrier turn from mid i j o p old between
      → TalksOn barrier turn mid to j k p q between new → TalksOn barrier turn from to i k o q old new
  talks_then from mid to i j k o p q old between new a b = record {
    taken = a.taken ++ b.taken;
    asked = a.asked ++ b.asked;
    calls = a.calls + b.calls;
    read = Consumes-trans i.left j.left k.left a.taken b.taken a.read b.read;
    apart = asks_then from mid to a.taken b.taken a.asked b.asked a.apart b.apart;
    stops = stops_on from mid a.taken b.taken a.asked a.apart a.stops b.stops;
    clock = later_then a.calls b.calls i.calls j.calls k.calls a.clock b.clock;
    steady = λ s. b.steady (a.steady s);
    told = subst (λ l. HasTold turn l o q old new) (sym (parted_append barrier a.asked b.asked))
        (told_then turn (parted barrier a.asked) (parted barrier b.asked) o p q old between new a.told b.told);
  }

  pub serves_then : (from mid : SharedState) (i j k : Input) (o p q : Output) (old between new : S) (why : SessionEnd)
      (a : TalksOn barrier turn from mid i j o p old between) (b : ServesClients barrier turn mid j k p q between new why)
      → b.calls ≡ 0 → (i.steady ≡ true → a.calls ≤ length a.taken + 1) → ServesClients barrier turn from i k o q old new why
  serves_then from mid i j k o p q old between new why a b none pace = record {
    taken = a.taken ++ b.taken;
    asked = a.asked ++ b.asked;
    streams = b.streams;
    calls = a.calls + b.calls;
    read = Consumes-trans i.left j.left k.left a.taken b.taken a.read b.read;
    apart = asks_then from mid b.streams a.taken b.taken a.asked b.asked a.apart b.apart;
    stops = stops_on from mid a.taken b.taken a.asked a.apart a.stops b.stops;
    clock = later_then a.calls b.calls i.calls j.calls k.calls a.clock b.clock;
    sound = λ s. b.sound (a.steady s);
    paced = λ s. let m = pace s in omega (arith, long, none, m);
    done = by b.done;
  }
    where
      long : length (a.taken ++ b.taken) ≡ length a.taken + length b.taken
      long = length-append a.taken b.taken

      by : TellsAll turn (parted barrier b.asked) why b.streams (b.calls + length b.taken) k p q between new ⊎ FailsToTell turn
          (parted barrier b.asked) why b.streams.clients p q between new
          → TellsAll turn (parted barrier (a.asked ++ b.asked)) why b.streams (a.calls + b.calls + length (a.taken ++ b.taken)) k o q old new ⊎ FailsToTell turn
          (parted barrier (a.asked ++ b.asked)) why b.streams.clients o q old new
      by (inl c) = inl (record {
        ended = end_later why b.streams.place (b.calls + length b.taken) (a.calls + b.calls + length (a.taken ++ b.taken)) k (omega (arith, long)) c.ended;
        told =
            subst (λ l. HasTold turn l o q old new) (sym
            (append_assoc (parted barrier a.asked) (parted barrier b.asked) (ends_at why b.streams.clients ++ Flush ∷ []))
            ∙ ap (λ l. l ++ (ends_at why b.streams.clients ++ Flush ∷ [])) (sym (parted_append barrier a.asked b.asked)))
            (told_then turn (parted barrier a.asked) (parted barrier b.asked ++ (ends_at why b.streams.clients ++ Flush ∷ [])) o p q old between new a.told
            c.told);
        rise = c.rise;
        handed_on = c.handed_on;
      })
      by (inr c) = inr (record {
        ended = c.ended;
        ends = c.ends;
        others = c.others;
        are = c.are;
        rise = c.rise;
        loses = subst (λ l. LosesWriter turn l c.ends o q old new) (sym (parted_append barrier a.asked b.asked))
            (loses_then turn (parted barrier a.asked) (parted barrier b.asked) c.ends o p q old between new a.told c.loses);
      })

-- ---- what came
pub parted_now : (barrier : List ℕ → Bool) → parted barrier (Flush ∷ []) ≡ Flush ∷ []
unfolding parted
parted_now barrier = refl

pub parted_end : (barrier : List ℕ → Bool) (client : ℕ) (why : End) → parted barrier (Of client (Ends why) ∷ []) ≡ Of client (Ends why) ∷ []
unfolding parted
parted_end barrier client why = refl

parted_body : (barrier : List ℕ → Bool) (client : ℕ) (body : List ℕ) → parted barrier (Of client (Body body) ∷ []) ≡ (if barrier body then Flush ∷ [] else [])
    ++ Of client (Body body) ∷ []
unfolding parted
parted_body barrier client body = refl

-- a body that comes alone stands behind a *now*
pub parted_alone : (barrier : List ℕ → Bool) (client : ℕ) (body : List ℕ) → barrier body ≡ true
    → parted barrier (Of client (Body body) ∷ []) ≡ Flush ∷ Of client (Body body) ∷ []
parted_alone barrier client body is = parted_body barrier client body ∙ ap (λ (b : Bool). (if b then Flush ∷ [] else []) ++ Of client (Body body) ∷ []) is

-- before any other none is made
pub parted_together : (barrier : List ℕ → Bool) (client : ℕ) (body : List ℕ) → barrier body ≡ false → parted barrier (Of client (Body body) ∷ []) ≡ Of client
    (Body body) ∷ []
parted_together barrier client body is = parted_body barrier client body ∙ ap (λ (b : Bool). (if b then Flush ∷ [] else []) ++ Of client (Body body) ∷ []) is

module _ {S : Type 0} (barrier : List ℕ → Bool) (turn : SharedTurn S) where
  -- ---- parts
  pub stays : (from : SharedState) → Demultiplexes from [] [] from
  stays from = nothing_asked from from refl (λ client. refl)

  few_ahead : (front : List ℕ) → one_ahead front ≤ 1
  few_ahead [] = omega arith
  few_ahead (x ∷ xs) = omega arith

  none_called : (front : List ℕ) → 0 + one_ahead front ≤ 0 + 1
  none_called front = let few = few_ahead front in omega (arith, few)

  some_ahead : (front : List ℕ) → 0 < length front → one_ahead front ≡ 1
  some_ahead [] h = absurd (omega (arith, h))
  some_ahead (x ∷ xs) h = refl

  no_call : (n : ℕ) → n ≡ later 0 n
  no_call n = omega arith

  -- what was taken is not nothing
  pub some_first : (count : ℕ) (bytes : List ℕ) → TakesSome count (length bytes) → 0 < length (take count bytes)
  some_first count bytes t = let len = length-take-le count bytes t.within in let some = t.some in omega (arith, len, some)

  one_taken : (n : ℕ) → 0 < n → 0 < 0 + n
  one_taken n h = omega (arith, h)

  one_call : 0 < 1 + 0
  one_call = omega arith

  -- what is read ahead was taken, and answered
  abbrev talks_taken : (from to : SharedState) (i j : Input) (o p : Output) (old new : S) (bytes : List ℕ) (asked : List (Tagged Brought))
      → TakesAhead bytes i j → Demultiplexes from bytes asked to → StopsAtUnknown from.place bytes
      → HasTold turn (parted barrier asked) o p old new → TalksOn barrier turn from to i j o p old new
  talks_taken from to i j o p old new bytes asked t a stop h = record {
    taken = bytes;
    asked = asked;
    calls = 0;
    read = t.taken;
    apart = a;
    stops = stop;
    clock = t.clock ∙ no_call i.calls;
    steady = λ s. t.steady ∙ s;
    told = h;
  }

  pub goes_taken : (from to : SharedState) (front front' : List ℕ) (i j : Input) (o p : Output) (old new : S) (bytes : List ℕ) (asked : List (Tagged Brought))
      → i.faulted ≡ false → 0 < length bytes → TakesAhead bytes i j → Demultiplexes from bytes asked to
      → StopsAtUnknown from.place bytes → HasTold turn (parted barrier asked) o p old new → MovesOn barrier turn from to front front' i j o p old new
  goes_taken from to front front' i j o p old new bytes asked well some t a stop h = record {
    talks = talks_taken from to i j o p old new bytes asked t a stop h;
    some = one_taken (length bytes) some;
    paced = λ s. let few = few_ahead front in omega (arith, few, some);
    well = t.fault ∙ well;
    quiet = λ called. absurd (omega (arith, called));
  }

  is_lost : (from to : SharedState) (i j : Input) (o p : Output) (old new : S) (bytes : List ℕ) (asked : List (Tagged Brought)) → i.faulted ≡ false
      → Consumes i.left j.left bytes → j.calls ≡ i.calls → j.faulted ≡ i.faulted → Demultiplexes from bytes asked to
      → StopsAtUnknown from.place bytes → LosesWriter turn (parted barrier asked) [] o p old new → IsUnwritten barrier turn from i j o p old new
  is_lost from to i j o p old new bytes asked well read clock fault a stop h = record {
    serves = record {
      taken = bytes;
      asked = asked;
      streams = to;
      calls = 0;
      read = read;
      apart = a;
      stops = stop;
      clock = clock ∙ no_call i.calls;
      sound = λ s. fault ∙ well;
      paced = λ s. omega arith;
      done = inr (record { ended = refl; ends = []; others = ends_in to.clients; are = refl; rise = λ some. absurd (some refl); loses = h });
    };
    uncalled = refl;
  }

  pub loses_taken : (from to : SharedState) (i j : Input) (o p : Output) (old new : S) (bytes : List ℕ) (asked : List (Tagged Brought)) → i.faulted ≡ false
      → TakesAhead bytes i j → Demultiplexes from bytes asked to → StopsAtUnknown from.place bytes
      → LosesWriter turn (parted barrier asked) [] o p old new → IsUnwritten barrier turn from i j o p old new
  loses_taken from to i j o p old new bytes asked well t a stop h = is_lost from to i j o p old new bytes asked well t.taken t.clock t.fault a stop h

  -- nothing was taken
  pub loses_before : (from : SharedState) (i : Input) (o p : Output) (old new : S) → i.faulted ≡ false → LosesWriter turn [] [] o p old new
      → IsUnwritten barrier turn from i i o p old new
  loses_before from i o p old new well h =
      is_lost from from i i o p old new [] [] well (Consumes-nil i.left) refl refl (stays from) (stops_none from.place)
      (subst (λ l. LosesWriter turn l [] o p old new) (sym (parted_none barrier)) h)

  over_here : (why : SessionEnd) (from to : SharedState) (front : List ℕ) (i : Input) (o : Output) (state : S) → o.broken ≡ false → i.faulted ≡ false
      → Demultiplexes from [] [] to → IsEndOf why to.place 0 i → IsLastPart barrier turn why from to front i i o o state state
  over_here why from to front i o state h well t e = record {
    talks = record {
      taken = [];
      asked = [];
      calls = 0;
      read = Consumes-nil i.left;
      apart = t;
      stops = stops_none from.place;
      clock = no_call i.calls;
      steady = λ s. s;
      told = subst (λ l. HasTold turn l o o state state) (sym (parted_none barrier)) (told_nothing turn o state h);
    };
    ended = e;
    sound = λ s. well;
    paced = λ s. none_called front;
  }

  pub over_memory : (from to : SharedState) (front : List ℕ) (i : Input) (o : Output) (state : S) → o.broken ≡ false → i.faulted ≡ false
      → Demultiplexes from [] [] to → IsClients from.place → IsLastPart barrier turn over.Memory from to front i i o o state state
  unfolding place_behind
  over_memory from to front i o state h well t c = over_here over.Memory from to front i o state h well t (subst IsClients t.place c)

  pub over_unknown : (from : SharedState) (front : List ℕ) (i : Input) (o : Output) (state : S) → o.broken ≡ false → i.faulted ≡ false
      → reads_nothing from.place ≡ true → IsLastPart barrier turn over.Unknown from from front i i o o state state
  over_unknown from front i o state h well e = over_here over.Unknown from from front i o state h well (stays from) e

  -- ---- waits
  abbrev waited : (more : More) (from : SharedState) (i j : Input) (o p : Output) (state : S) (front : List ℕ) → Writes o p [] → Waits more i j front
      → TalksOn barrier turn from from i j o p state state
  waited more from i j o p state front w m = record {
    taken = [];
    asked = [];
    calls = 1;
    read = Consumes-kept i.left i.left j.left [] (Consumes-nil i.left) m.kept;
    apart = stays from;
    stops = stops_none from.place;
    clock = m.clock;
    steady = m.steady;
    told = subst (λ l. HasTold turn l o p state state) (sym (parted_none barrier)) (told_quiet turn o p state w);
  }

  quiet_more : (m : More) → (m ≡ more.Some) ⊎ (m ≡ more.Again) → ahead.is_broken m ≡ false
  quiet_more m (inl e) = ap ahead.is_broken e
  quiet_more m (inr e) = ap ahead.is_broken e

  -- a steady reader brings something, but for at the end
  brings_some : (m : More) (i j : Input) (front : List ℕ) → (m ≡ more.Some) ⊎ (m ≡ more.Again) → Waits m i j front → i.steady ≡ true → one_ahead front ≡ 1
  brings_some m i j front (inl e) w s = some_ahead front (subst (λ (x : More). ahead.Brings x j.left front) e w.brings)
  brings_some m i j front (inr e) w s = absurd (subst ahead.IsSure e (w.on s))

  pub goes_waited : (m : More) (from : SharedState) (front front' : List ℕ) (i j : Input) (o p : Output) (state : S) → front ≡ []
      → (m ≡ more.Some) ⊎ (m ≡ more.Again) → Writes o p [] → IsHandedOn p → Waits m i j front'
      → MovesOn barrier turn from from front front' i j o p state state
  goes_waited m from front front' i j o p state none is w on waits = record {
    quiet = λ _. on;
    talks = waited m from i j o p state front' w waits;
    some = one_call;
    paced = λ s. let one = brings_some m i j front' is waits s in let empty = ap one_ahead none in omega (arith, one, empty);
    well = waits.fault ∙ quiet_more m is;
  }

  one_wait : (front : List ℕ) → front ≡ [] → 1 + one_ahead front ≤ 0 + 1
  one_wait front none = let empty = ap one_ahead none in omega (arith, empty)

  input_over : (place : FramePlace) (i : Input) → IsAtEnd i.left → IsEndOf (input_end place) place 0 i
  input_over (InHead []) i e = (refl, e)
  input_over (InHead (x ∷ xs)) i e = (refl, e)
  input_over (Within client n) i e = (refl, e)
  input_over Broken i e = refl

  pub over_waited : (from : SharedState) (front front' : List ℕ) (i j : Input) (o p : Output) (state : S) (why : SessionEnd) → front ≡ []
      → why ≡ input_end from.place → Writes o p [] → Waits more.End i j front'
      → IsLastPart barrier turn why from from front i j o p state state
  over_waited from front front' i j o p state why none is w m = record {
    talks = waited more.End from i j o p state front' w m;
    ended = subst (λ (e : SessionEnd). IsEndOf e from.place 0 j) (sym is) (input_over from.place j m.brings.1);
    sound = λ s. m.fault;
    paced = λ s. one_wait front none;
  }

  pub over_fault : (from : SharedState) (front front' : List ℕ) (i j : Input) (o p : Output) (state : S) → front ≡ [] → Writes o p []
      → Waits more.Fault i j front' → IsLastPart barrier turn over.ReadFault from from front i j o p state state
  over_fault from front front' i j o p state none w m = record {
    talks = waited more.Fault from i j o p state front' w m;
    ended = inl m.fault;
    sound = λ s. absurd (m.on s);
    paced = λ s. one_wait front none;
  }

  -- ---- what was brought
  pub none_came : (a : DemuxItem) (o : Output) (state : S) → (a ≡ things.Nothing) ⊎ (a ≡ things.Unknown) → o.broken ≡ false
      → HasTold turn (parted barrier (arrived a)) o o state state
  none_came a o state is h = subst (λ l. HasTold turn l o o state state) (sym (ap (parted barrier) (none is) ∙ parted_none barrier))
      (told_nothing turn o state h)
    where
      none : (a ≡ things.Nothing) ⊎ (a ≡ things.Unknown) → arrived a ≡ []
      none (inl e) = ap arrived e
      none (inr e) = ap arrived e

  pub end_came : (a : DemuxItem) (client : ℕ) (why : End) → a ≡ things.Ends client why → parted barrier (arrived a) ≡ Of client (Ends why) ∷ []
  end_came a client why is = ap (λ (x : DemuxItem). parted barrier (arrived x)) is ∙ parted_end barrier client why

  pub now_came : (a : DemuxItem) → a ≡ things.Flush → parted barrier (arrived a) ≡ Flush ∷ []
  now_came a is = ap (λ (x : DemuxItem). parted barrier (arrived x)) is ∙ parted_now barrier

  pub told_as : (asks came : List (Tagged Brought)) (o p : Output) (old new : S) → came ≡ asks → HasTold turn asks o p old new → HasTold turn came o p old new
  told_as asks came o p old new e h = subst (λ l. HasTold turn l o p old new) (sym e) h

  pub lost_as : (asks came : List (Tagged Brought)) (o p : Output) (old new : S) → came ≡ asks → LosesWriter turn asks [] o p old new
      → LosesWriter turn came [] o p old new
  lost_as asks came o p old new e h = subst (λ l. LosesWriter turn l [] o p old new) (sym e) h

  pub lost_then : (l : Loss) (asks : List (Tagged Brought)) (o p : Output) (old new : S) → l ≡ loss.Answered → AnswersAsked turn (Err l) asks o p old new
      → LosesWriter turn asks [] o p old new
  lost_then l asks o p old new is a = subst (λ (x : Loss). AnswersAsked turn (Err x) asks o p old new) is a

  pub lost_before : (l : Loss) (asks : List (Tagged Brought)) (o p : Output) (old new : S) → l ≡ loss.Undone → AnswersAsked turn (Err l) asks o p old new
      → LosesWriter turn [] [] o p old new
  lost_before l asks o p old new is a = subst (λ (x : Loss). AnswersAsked turn (Err x) asks o p old new) is a

  -- ---- the ends
  one_end : (client : ℕ) (why : Option End) (state : ClientState) (clients clients' : List (ℕ × ClientState)) → clients ≡ (client, state) ∷ clients'
      → EndsWith why (Some state) None
      → ends_in clients ≡ tag_all client (brought_last why) ++ ends_in clients'
  unfolding ends_in
  one_end client why state clients clients' is e = ap ends_in is ∙ ap (λ (r : List Brought × Option ClientState). tag_all client r.0 ++ ends_in clients') e

  some_named : (client : ℕ) (why : End) → tag_all client (brought_last (Some why)) ≡ Of client (Ends why) ∷ []
  unfolding tag_all
  some_named client why = refl

  none_named : (client : ℕ) → tag_all client (brought_last None) ≡ []
  unfolding tag_all
  none_named client = refl

  one_less : (client : ℕ) (state : ClientState) (clients clients' : List (ℕ × ClientState)) → clients ≡ (client, state) ∷ clients'
      → length clients ≡ length clients' + 1
  one_less client state clients clients' is = let e = ap length is in omega (arith, e)

  ends_one : (result : Result (Unit {0}) Unwritten) (ask : Tagged Brought) (o p : Output) (old new : S) → AnswersSingle turn result ask o p old new
      → AnswersEnds turn result (ask ∷ []) (ask ∷ []) o p old new
  ends_one (Ok u) ask o p old new a = a
  ends_one (Err f) ask o p old new a = record { ends = ask ∷ []; others = []; are = refl; loses = as_ends turn (ask ∷ []) o p old new a }

  pub ends_next : (result : Result (Unit {0}) Unwritten) (client : ℕ) (last : Option End) (why : End) (clients clients' : List (ℕ × ClientState)) (o p : Output)
      (old new : S) → last ≡ Some why → EndsLowest (Some (client, last)) clients clients'
      → AnswersSingle turn result (Of client (Ends why)) o p old new → EndsNext turn result clients clients' o p old new
  ends_next result client last why clients clients' o p old new is l a = let e =
      subst (λ (x : Option End). EndsLowest (Some (client, x)) clients clients') is l in record {
        ends = Of client (Ends why) ∷ [];
        are = one_end client (Some why) e.0 clients clients' e.1 e.2 ∙ ap (λ l. l ++ ends_in clients') (some_named client why);
        one = one_less client e.0 clients clients' e.1;
        answers = ends_one result (Of client (Ends why)) o p old new a;
      }

  pub ends_none : (client : ℕ) (last : Option End) (clients clients' : List (ℕ × ClientState)) (o : Output) (state : S) → last ≡ None
      → EndsLowest (Some (client, last)) clients clients' → o.broken ≡ false → EndsNext turn (Ok tt) clients clients' o o state state
  ends_none client last clients clients' o state is l h = let e = subst (λ (x : Option End). EndsLowest (Some (client, x)) clients clients') is l in record {
    ends = [];
    are = one_end client None e.0 clients clients' e.1 e.2 ∙ ap (λ l. l ++ ends_in clients') (none_named client);
    one = one_less client e.0 clients clients' e.1;
    answers = told_nothing turn o state h;
  }

  -- so many of them are answered
  pub record EndsSoFar (clients clients' : List (ℕ × ClientState)) (o p : Output) (old new : S) : Type 0 where
    pub ends : List (Tagged Brought)
    pub are : ends_in clients ≡ ends ++ ends_in clients'
    pub told : HasTold turn ends o p old new

  pub ends_start : (clients : List (ℕ × ClientState)) (o : Output) (state : S) → o.broken ≡ false → EndsSoFar clients clients o o state state
  ends_start clients o state h = record { ends = []; are = refl; told = told_nothing turn o state h }

  ends_apart : (all mid : List (ℕ × ClientState)) (new : List (ℕ × ClientState)) (ends more : List (Tagged Brought)) → ends_in all ≡ ends ++ ends_in mid
      → ends_in mid ≡ more ++ ends_in new → ends_in all ≡ (ends ++ more) ++ ends_in new
  ends_apart all mid new ends more a b = a ∙ ap (λ l. ends ++ l) b ∙ sym (append_assoc ends more (ends_in new))

  pub ends_more : (u : Unit {0}) (clients mid clients' : List (ℕ × ClientState)) (o p q : Output) (old between new : S) → EndsSoFar clients mid o p old between
      → EndsNext turn (Ok u) mid clients' p q between new
      → EndsSoFar clients clients' o q old new
  ends_more u clients mid clients' o p q old between new a b = record {
    ends = a.ends ++ b.ends;
    are = ends_apart clients mid clients' a.ends b.ends a.are b.are;
    told = told_then turn a.ends b.ends o p q old between new a.told b.answers;
  }

  pub ends_lost : (result : Result (Unit {0}) Unwritten) (fault : Unwritten) (clients mid clients' : List (ℕ × ClientState)) (o p q : Output)
      (old between new : S) → IsErr result → EndsSoFar clients mid o p old between
      → EndsNext turn (Err fault) mid clients' p q between new → AnswersEnds turn result (ends_in clients) (ends_in clients) o q old new
  ends_lost (Ok u) fault clients mid clients' o p q old between new is a b = absurd (false≢true is)
  ends_lost (Err f) fault clients mid clients' o p q old between new is a b =
      let l = b.answers in record {
        ends = a.ends ++ l.ends;
        others = l.others ++ ends_in clients';
        are = append_assoc a.ends l.ends (l.others ++ ends_in clients')
            ∙ ap (λ k. a.ends ++ k) (sym (append_assoc l.ends l.others (ends_in clients')) ∙ ap (λ k. k ++ ends_in clients') l.are)
            ∙ ap (λ k. a.ends ++ k) (sym b.are)
            ∙ sym a.are;
        loses = ends_lose a.ends l.ends o p q old between new a.told l.loses;
      }
    where
      ends_lose : (ps qs : List (Tagged Brought)) (o p q : Output) (old between new : S) → HasTold turn ps o p old between
          → LosesWriter turn [] qs p q between new → LosesWriter turn [] (ps ++ qs) o q old new
      ends_lose ps qs o p q old between new h w =
          let all = loses_then turn ps [] qs o p q old between new h w in record {
            given = all.given;
            unheard = all.unheard;
            run = subst (λ l. AllTurned turn old l (all.given ++ all.unheard) new)
                (ap (λ l. l ++ (qs ++ Flush ∷ [])) (append-nil ps) ∙ sym (append_assoc ps qs (Flush ∷ []))) all.run;
            one = all.one;
            torn = all.torn;
            few = all.few;
            left = tt;
          }

  no_ends : ends_in [] ≡ []
  unfolding ends_in
  no_ends = refl

  pub ends_all : (clients clients' : List (ℕ × ClientState)) (o p : Output) (old new : S) → length clients' ≡ 0 → EndsSoFar clients clients' o p old new
      → HasTold turn (ends_in clients) o p old new
  ends_all clients [] o p old new none a = subst (λ l. HasTold turn l o p old new) (sym (a.are ∙ ap (λ l. a.ends ++ l) no_ends ∙ append-nil a.ends)) a.told
  ends_all clients (x ∷ xs) o p old new none a = absurd (omega (arith, none))

  pub none_end : (why : SessionEnd) (clients : List (ℕ × ClientState)) (o : Output) (state : S) → ends_at why clients ≡ [] → o.broken ≡ false
      → HasTold turn (ends_at why clients) o o state state
  none_end why clients o state is h = subst (λ l. HasTold turn l o o state state) (sym is) (told_nothing turn o state h)

  pub none_at : (why : SessionEnd) (clients : List (ℕ × ClientState)) → (why ≡ over.Memory) ⊎ ((why ≡ over.ReadFault) ⊎ (why ≡ over.WriteFault))
      → ends_at why clients ≡ []
  none_at why clients (inl e) = ap (λ (x : SessionEnd). ends_at x clients) e
  none_at why clients (inr (inl e)) = ap (λ (x : SessionEnd). ends_at x clients) e
  none_at why clients (inr (inr e)) = ap (λ (x : SessionEnd). ends_at x clients) e

  others_at : SessionEnd → List (ℕ × ClientState) → List (Tagged Brought)
  others_at over.Closed clients = []
  others_at over.Cut clients = []
  others_at over.Unknown clients = []
  others_at over.Memory clients = ends_in clients
  others_at over.ReadFault clients = ends_in clients
  others_at over.WriteFault clients = ends_in clients

  ends_first : (why : SessionEnd) (clients : List (ℕ × ClientState)) → ends_at why clients ++ others_at why clients ≡ ends_in clients
  unfolding others_at
  ends_first over.Closed clients = append-nil (ends_in clients)
  ends_first over.Cut clients = append-nil (ends_in clients)
  ends_first over.Unknown clients = append-nil (ends_in clients)
  ends_first over.Memory clients = refl
  ends_first over.ReadFault clients = refl
  ends_first over.WriteFault clients = refl

  pub closes_well : (why : SessionEnd) (clients : List (ℕ × ClientState)) (o p q : Output) (old between new : S)
      → HasTold turn (ends_at why clients) o p old between → HasTold turn (Flush ∷ []) p q between new × IsHandedOn q
      → ClosesAll turn why why clients o q old new
  closes_well why clients o p q old between new a b = inl (refl, told_then turn (ends_at why clients) (Flush ∷ []) o p q old between new a b.0, b.1)

  pub closes_lost : (why : SessionEnd) (clients : List (ℕ × ClientState)) (o p q : Output) (old between new : S)
      → HasTold turn (ends_at why clients) o p old between → LosesWriter turn [] [] p q between new
      → ClosesAll turn over.WriteFault why clients o q old new
  closes_lost why clients o p q old between new a b = inr (
    refl,
    record {
      ends = ends_at why clients;
      others = others_at why clients;
      are = ends_first why clients;
      loses =
          as_ends turn (ends_at why clients) o q old new
          (subst (λ l. LosesWriter turn l [] o q old new) (append-nil (ends_at why clients))
          (loses_then turn (ends_at why clients) [] [] o p q old between new a b));
    },
  )

  -- ---- the whole session
  pub over_closes : (result why : SessionEnd) (from to : SharedState) (i j : Input) (o p q : Output) (old between new : S)
      → IsLastPart barrier turn why from to [] i j o p old between → ClosesAll turn result why to.clients p q between new → Rises to.clients
      → ServesClients barrier turn from i j o q old new result
  over_closes result why from to i j o p q old between new a c rise = record {
    taken = a.talks.taken;
    asked = a.talks.asked;
    streams = to;
    calls = a.talks.calls;
    read = a.talks.read;
    apart = a.talks.apart;
    stops = a.talks.stops;
    clock = a.talks.clock;
    sound = a.sound;
    paced = λ s. let p = a.paced s in omega (arith, p);
    done = by c;
  }
    where
      by : ClosesAll turn result why to.clients p q between new
          → TellsAll turn (parted barrier a.talks.asked) result to (a.talks.calls + length a.talks.taken) j o q old new ⊎ FailsToTell turn
          (parted barrier a.talks.asked) result to.clients o q old new
      by (inl d) = inl (record {
        ended = subst (λ (e : SessionEnd). IsEndOf e to.place (a.talks.calls + length a.talks.taken) j) (sym d.0)
            (end_later why to.place 0 (a.talks.calls + length a.talks.taken) j (omega arith) a.ended);
        told = subst (λ (e : SessionEnd). HasTold turn (parted barrier a.talks.asked ++ (ends_at e to.clients ++ Flush ∷ [])) o q old new) (sym d.0)
            (told_then turn (parted barrier a.talks.asked) (ends_at why to.clients ++ Flush ∷ []) o p q old between new a.talks.told d.1);
        rise = rise;
        handed_on = d.2;
      })
      by (inr d) = inr (record {
        ended = d.0;
        ends = d.1.ends;
        others = d.1.others;
        are = d.1.are;
        rise = λ some. rise;
        loses = subst (λ l. LosesWriter turn l d.1.ends o q old new) (append-nil (parted barrier a.talks.asked))
            (loses_then turn (parted barrier a.talks.asked) [] d.1.ends o p q old between new a.talks.told d.1.loses);
      })

  -- so many bytes and calls of the reader so far
  pub record SharedSoFar (from to : SharedState) (front : List ℕ) (i j : Input) (o p : Output) (old new : S) (count : ℕ) : Type 0 where
    pub talks : TalksOn barrier turn from to i j o p old new
    pub paced : i.steady ≡ true → talks.calls ≤ length talks.taken + one_ahead front
    pub used : count ≤ talks.calls + length talks.taken

  pub far_start : (from to : SharedState) (front : List ℕ) (i : Input) (o : Output) (state : S) → to ≡ from → o.broken ≡ false
      → SharedSoFar from to front i i o o state state 0
  far_start from to front i o state is h =
      subst (λ (s : SharedState). SharedSoFar from s front i i o o state state 0) (sym is)
      (record { talks = talks_start barrier turn from i o state (stays from) h; paced = λ s. omega arith; used = omega arith })

  far_long : (xs ys : List ℕ) (m n count : ℕ) → count ≤ m + length xs → 0 < n + length ys → count + 1 ≤ m + n + length (xs ++ ys)
  far_long xs ys m n count h k = let l = length-append xs ys in omega (arith, h, k, l)

  pub far_more : (from mid to : SharedState) (front front' : List ℕ) (i j k : Input) (o p q : Output) (old between new : S) (count : ℕ)
      → SharedSoFar from mid front i j o p old between count
      → MovesOn barrier turn mid to front front' j k p q between new → SharedSoFar from to front' i k o q old new (count + 1)
  far_more from mid to front front' i j k o p q old between new count a b = record {
    talks = talks_then barrier turn from mid to i j k o p q old between new a.talks b.talks;
    paced = λ s. let l = length-append a.talks.taken b.talks.taken in let m = a.paced s in let n = b.paced (a.talks.steady s) in omega (arith, l, m, n);
    used = far_long a.talks.taken b.talks.taken a.talks.calls b.talks.calls count a.used b.some;
  }

  pub far_over : (from mid to : SharedState) (front : List ℕ) (i j k : Input) (o p q : Output) (old between new : S) (count : ℕ) (why : SessionEnd)
      → SharedSoFar from mid front i j o p old between count
      → IsLastPart barrier turn why mid to front j k p q between new → IsLastPart barrier turn why from to [] i k o q old new
  far_over from mid to front i j k o p q old between new count why a b = record {
    talks = talks_then barrier turn from mid to i j k o p q old between new a.talks b.talks;
    ended = b.ended;
    sound = λ s. b.sound (a.talks.steady s);
    paced = λ s. let l = length-append a.talks.taken b.talks.taken in let m = a.paced s in let n = b.paced (a.talks.steady s) in omega (arith, l, m, n);
  }

  at_most : (front : List ℕ) (m n : ℕ) → m ≤ n + one_ahead front → m ≤ n + 1
  at_most front m n h = let few = few_ahead front in omega (arith, h, few)

  pub far_lost : (from mid : SharedState) (front : List ℕ) (i j k : Input) (o p q : Output) (old between new : S) (count : ℕ)
      → SharedSoFar from mid front i j o p old between count → IsUnwritten barrier turn mid j k p q between new
      → ServesClients barrier turn from i k o q old new over.WriteFault
  far_lost from mid front i j k o p q old between new count a b =
      serves_then barrier turn from mid i j k o p q old between new over.WriteFault a.talks b.serves b.uncalled
      (λ s. at_most front a.talks.calls (length a.talks.taken) (a.paced s))

  -- as many as may be
  pub far_used : (result : SessionEnd) (from to : SharedState) (front : List ℕ) (i j : Input) (o p q : Output) (old between new : S) (count : ℕ)
      → max_records ≤ count → j.faulted ≡ false → SharedSoFar from to front i j o p old between count
      → ClosesAll turn result over.ReadFault to.clients p q between new → Rises to.clients → ServesClients barrier turn from i j o q old new result
  far_used result from to front i j o p q old between new count all well a c rise = record {
    taken = a.talks.taken;
    asked = a.talks.asked;
    streams = to;
    calls = a.talks.calls;
    read = a.talks.read;
    apart = a.talks.apart;
    stops = a.talks.stops;
    clock = a.talks.clock;
    sound = λ s. well;
    paced = λ s. at_most front a.talks.calls (length a.talks.taken) (a.paced s);
    done = by c;
  }
    where
      many : max_records ≤ a.talks.calls + length a.talks.taken
      many = let u = a.used in omega (arith, all, u)

      by : ClosesAll turn result over.ReadFault to.clients p q between new
          → TellsAll turn (parted barrier a.talks.asked) result to (a.talks.calls + length a.talks.taken) j o q old new ⊎ FailsToTell turn
          (parted barrier a.talks.asked) result to.clients o q old new
      by (inl d) = inl (record {
        ended = subst (λ (e : SessionEnd). IsEndOf e to.place (a.talks.calls + length a.talks.taken) j) (sym d.0) (inr many);
        told = subst (λ (e : SessionEnd). HasTold turn (parted barrier a.talks.asked ++ (ends_at e to.clients ++ Flush ∷ [])) o q old new) (sym d.0)
            (told_then turn (parted barrier a.talks.asked) ([] ++ Flush ∷ []) o p q old between new a.talks.told d.1);
        rise = rise;
        handed_on = d.2;
      })
      by (inr d) = inr (record {
        ended = d.0;
        ends = d.1.ends;
        others = d.1.others;
        are = d.1.are;
        rise = λ some. rise;
        loses = subst (λ l. LosesWriter turn l d.1.ends o q old new) (append-nil (parted barrier a.talks.asked))
            (loses_then turn (parted barrier a.talks.asked) [] d.1.ends o p q old between new a.talks.told d.1.loses);
      })
