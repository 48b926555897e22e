-- Which requests call for the device, and groups one after another on it.
use Rattle.std.proofs.Common.{◌≡◌, ◌⊎◌, inl, inr, ◌<◌, List, [], ◌∷◌, ◌++◌, length, refl, sym, ◌∙◌, ap, subst, arith, length-append}
use Rattle.std.proofs.Common.{append_assoc}
use Rattle.oa_group_commit.specs.promise.Groups.{events_in, CallsFor, MakesEvent, Sequentially, Trace, Exchange}
use Rattle.oa_group_commit.specs.promise.Groups.{StateMachine}
use Rattle.oa_group_commit.proofs.Entries.{run_append}

pub none_or_some : {X : Type 0} (xs : List X) → (length xs ≡ 0) ⊎ (0 < length xs)
none_or_some [] = inl refl
none_or_some (x ∷ xs) = inr (omega arith)

module _ {S R : Type 0} (t : StateMachine S R) where
  -- more of them
  pub calls_more : (first : S) (entries more : List (Exchange R)) → CallsFor t first entries → CallsFor t first (entries ++ more)
  calls_more first entries more is = record {
    front = is.front;
    asked = is.asked;
    back = is.back ++ more;
    are = ap (λ (l : List (Exchange R)). l ++ more) is.are ∙ append_assoc is.front (is.asked ∷ is.back) more;
    state = is.state;
    run = is.run;
    calls = is.calls;
  }

  -- and others before them
  pub calls_behind : (first : S) (before : List (Exchange R)) (mid : S) (entries : List (Exchange R)) → Trace t first before mid → CallsFor t mid entries
      → CallsFor t first (before ++ entries)
  calls_behind first before mid entries run is = record {
    front = before ++ is.front;
    asked = is.asked;
    back = is.back;
    are = ap (λ (l : List (Exchange R)). before ++ l) is.are ∙ sym (append_assoc before is.front (is.asked ∷ is.back));
    state = is.state;
    run = run_append t first before mid is.front is.state run is.run;
    calls = is.calls;
  }

  pub calls_one : (state : S) (asked : Exchange R) → MakesEvent t state asked.body → CallsFor t state (asked ∷ [])
  calls_one state asked makes = record { front = []; asked = asked; back = []; are = refl; state = state; run = refl; calls = inl makes }

  -- where some have an event, one of them makes it
  pub calls_events : (first : S) (entries : List (Exchange R)) (last : S) → Trace t first entries last → 0 < length (events_in entries)
      → CallsFor t first entries
  calls_events first [] last run some = absurd (omega (arith, some))
  calls_events first (asked ∷ entries) last run some = by (none_or_some asked.event) (λ rest. calls_events run.0 entries last run.2 rest)
    where
      by : (length asked.event ≡ 0) ⊎ (0 < length asked.event) → (0 < length (events_in entries) → CallsFor t run.0 entries)
          → CallsFor t first (asked ∷ entries)
      by (inl none) rest =
          calls_behind first (asked ∷ []) run.0 entries (run.0, run.1, refl)
          (rest (let size = length-append asked.event (events_in entries) in omega (arith, some, size, none)))
      by (inr own) rest = record {
        front = [];
        asked = asked;
        back = entries;
        are = refl;
        state = first;
        run = refl;
        calls = inl (record { reply = asked.reply; event = asked.event; after = run.0; turn = run.1; some = own });
      }

  pub calls_none : (state : S) → CallsFor t state [] → ⊥
  calls_none state is = by is.front is.are
    where
      by : (front : List (Exchange R)) → [] ≡ front ++ is.asked ∷ is.back → ⊥
      by [] are = absurd (cc)
      by (x ∷ front) are = absurd (cc)

  -- one group more
  pub turn_push : {D : Type 0} (old : D) (before : S) (groups : List (List (Exchange R))) (mid : D) (state : S) (group : List (Exchange R)) (new : D)
      (after : S)
      → Sequentially t old before groups mid state → Trace t state group after → (new ≡ mid) ⊎ CallsFor t state group
      → Sequentially t old before (groups ++ group ∷ []) new after
  turn_push {D} old before [] mid state group new after was run calls =
      (new, after, subst (λ (s : S). Trace t s group after) was.1 run, at_first calls, (refl, refl))
    where
      at_first : (new ≡ mid) ⊎ CallsFor t state group → (new ≡ old) ⊎ CallsFor t before group
      at_first (inl same) = inl (same ∙ was.0)
      at_first (inr called) = inr (subst (λ (s : S). CallsFor t s group) was.1 called)
  turn_push old before (one ∷ groups) mid state group new after was run calls =
      (was.0, was.1, was.2, was.3, turn_push was.0 was.1 groups mid state group new after was.4 run calls)
