-- Lists of requests, their events and their groups.
use Rattle.std.proofs.Common.{◌≡◌, ◌≢◌, ◌⊎◌, inl, inr, ℕ, ◌<◌, Bool, true, false, if◌then◌else◌, List, [], ◌∷◌, ◌++◌, length, map, Result, Ok}
use Rattle.std.proofs.Common.{Err, refl, sym, ◌∙◌, ap, subst, arith, append_assoc}
use Rattle.std.proofs.lemmas.List.{append-nil}
use Rattle.std.specs.List.{AllByRecursion, flat_map}
use Rattle.oa_image.specs.promise.Events.{event}
use Rattle.oa_journal.specs.promise.Bank.{Replays, applied_all, followed}
use Rattle.oa_table.specs.promise.Events.{applied}
use Rattle.oa_table.specs.promise.Tables.{TableValue}
use Rattle.oa_table.specs.declared.event.Event.{Event}
use Rattle.oa_table.specs.declared.fault.TableFault.{TableFault}
use Rattle.oa_group_commit.specs.Invariants.{IsCut, IsNextGroup}
use Rattle.oa_group_commit.specs.promise.Groups.{events_in, is_full, rest_of, cut, groups_of, concat_groups, Trace}
use Rattle.oa_group_commit.specs.promise.Groups.{Exchange, StateMachine, reply_of}
use Rattle.oa_group_commit.specs.Simple.{no_event}

-- events and then more of them
all_append : (front back : List Event) → AllByRecursion event.Is front → AllByRecursion event.Is back → AllByRecursion event.Is (front ++ back)
all_append [] back one two = two
all_append (e ∷ front) back one two = (one.0, all_append front back one.1 two)

flat_append : (front back : List Event) → flat_map event.image (front ++ back) ≡ flat_map event.image front ++ flat_map event.image back
flat_append [] back = refl
flat_append (e ∷ front) back = ap (λ (l : List ℕ). event.image e ++ l) (flat_append front back)
    ∙ sym (append_assoc (event.image e) (flat_map event.image front) (flat_map event.image back))

applied_append : (front back : List Event) (old mid : TableValue) → applied_all front old ≡ Ok mid → applied_all (front ++ back) old ≡ applied_all back mid
applied_append [] back old mid is = ap (applied_all back) (same old mid is)
  where
    made : TableValue → Result TableValue TableFault
    made table = Ok table

    same : (a b : TableValue) → made a ≡ made b → a ≡ b
    same a b e = cc
applied_append (e ∷ front) back old mid is = by (applied e old) is (λ next makes. applied_append front back next mid makes)
  where
    by : (due : Result TableValue TableFault) → followed (λ next. applied_all front next) due ≡ Ok mid
        → ((next : TableValue) → applied_all front next ≡ Ok mid → applied_all (front ++ back) next ≡ applied_all back mid)
        → followed (λ next. applied_all (front ++ back) next) due ≡ applied_all back mid
    by (Ok next) makes rest = rest next makes
    by (Err fault) makes rest = absurd (cc)

pub replays_more : (front back : List ℕ) (old mid new : TableValue) → Replays front old mid → Replays back mid new → Replays (front ++ back) old new
replays_more front back old mid new one two = record {
  events = one.events ++ two.events;
  are = record {
    are = all_append one.events two.events one.are.are two.are.are;
    whole = ap (λ (l : List ℕ). l ++ back) one.are.whole ∙ ap (λ (l : List ℕ). flat_map event.image one.events ++ l) two.are.whole
        ∙ sym (flat_append one.events two.events);
  };
  makes = applied_append one.events two.events old mid one.makes ∙ two.makes;
}

module _ {S R : Type 0} (t : StateMachine S R) where
  -- the events of a run make of what is held before it what is held after it
  pub run_replays : (old : S) (entries : List (Exchange R)) (new : S) → Trace t old entries new → Replays (events_in entries) (t.held old) (t.held new)
  run_replays old [] new run = subst (λ (s : S). Replays [] (t.held old) (t.held s)) run (no_event (t.held old))
  run_replays old (asked ∷ entries) new run =
      replays_more asked.event (events_in entries) (t.held old) (t.held run.0) (t.held new) (t.replays asked old run.0 run.1)
      (run_replays run.0 entries new run.2)

  -- one run behind another
  pub run_append : (old : S) (front : List (Exchange R)) (mid : S) (back : List (Exchange R)) (new : S) → Trace t old front mid → Trace t mid back new
      → Trace t old (front ++ back) new
  run_append old [] mid back new first second = subst (λ (s : S). Trace t s back new) (sym first) second
  run_append old (asked ∷ front) mid back new first second = (first.0, first.1, run_append first.0 front mid back new first.2 second)

  -- a run of one
  pub run_one : (old : S) (asked : Exchange R) (new : S) → t.Turn asked old new → Trace t old (asked ∷ []) new
  run_one old asked new turn = (new, turn, refl)

  -- the replies of a run, taken back
  pub run_withdrawn : (old : S) (held : List (Exchange R)) (new : S) → Trace t old held new
      → map t.aborted (map reply_of held) ≡ map (λ asked. t.faulted asked.body) held
  run_withdrawn old [] new run = refl
  run_withdrawn old (asked ∷ held) new run =
      ap (λ (r : R). r ∷ map t.aborted (map reply_of held)) (t.tells asked old run.0 run.1)
      ∙ ap (λ (l : List R). t.faulted asked.body ∷ l) (run_withdrawn run.0 held new run.2)

module _ {R : Type 0} where
  pub events_push : (held : List (Exchange R)) (asked : Exchange R) → events_in (held ++ asked ∷ []) ≡ events_in held ++ asked.event
  events_push [] asked = append-nil asked.event
  events_push (e ∷ held) asked = ap (λ (l : List ℕ). e.event ++ l) (events_push held asked) ∙ sym (append_assoc e.event (events_in held) asked.event)

  pub joined_push : (groups : List (List (Exchange R))) (group : List (Exchange R)) → concat_groups (groups ++ group ∷ []) ≡ concat_groups groups ++ group
  joined_push [] group = append-nil group
  joined_push (g ∷ groups) group = ap (λ (l : List (Exchange R)). g ++ l) (joined_push groups group) ∙ sym (append_assoc g (concat_groups groups) group)

  pub joined_two : (front back : List (List (Exchange R))) → concat_groups (front ++ back) ≡ concat_groups front ++ concat_groups back
  joined_two [] back = refl
  joined_two (group ∷ front) back = ap (λ (l : List (Exchange R)). group ++ l) (joined_two front back)
      ∙ sym (append_assoc group (concat_groups front) (concat_groups back))

  shift : (groups : List (List (Exchange R))) (held : List (Exchange R)) (asked : Exchange R) (later : List (Exchange R))
      → concat_groups groups ++ ((held ++ asked ∷ []) ++ later) ≡ concat_groups groups ++ (held ++ asked ∷ later)
  shift groups held asked later = ap (λ (l : List (Exchange R)). concat_groups groups ++ l) (append_assoc held (asked ∷ []) later)

  some_rest : (held : List (Exchange R)) → 0 < length held → rest_of held ≡ held ∷ []
  some_rest [] some = absurd (omega (arith, some))
  some_rest (e ∷ held) some = refl

no_bytes : (bytes : List ℕ) → length bytes ≡ 0 → bytes ≡ []
no_bytes [] none = refl
no_bytes (b ∷ bytes) none = absurd (omega (arith, none))

-- a group that is not full at its fault has no event
pub joined_events : {R : Type 0} (held : List (Exchange R)) (asked : Exchange R) → length (events_in held) ≡ 0 → asked.event ≡ []
    → events_in (held ++ asked ∷ []) ≡ []
joined_events held asked none empty = events_push held asked ∙ ap (λ (l : List ℕ). events_in held ++ l) empty ∙ append-nil (events_in held)
    ∙ no_bytes (events_in held) none

pub no_entry : {R : Type 0} (held : List (Exchange R)) → map reply_of held ≡ [] → held ≡ []
no_entry [] is = refl
no_entry (asked ∷ held) is = absurd (cc)

pub some_entry : {R : Type 0} (held : List (Exchange R)) → map reply_of held ≢ [] → 0 < length held
some_entry [] some = absurd (some refl)
some_entry (asked ∷ held) some = omega arith

-- Which groups are whole is known where a request comes next that is a group of its own.
abbrev pub IsCutBefore : {R : Type 0} → (List ℕ → Bool) → ℕ → List (List (Exchange R)) → List (Exchange R) → Type 0
IsCutBefore {R} barrier size groups held =
    (asked : Exchange R) (later : List (Exchange R)) → barrier asked.body ≡ true
    → groups_of barrier size (concat_groups groups ++ (held ++ asked ∷ later)) ≡ groups ++ (rest_of held ++ (asked ∷ []) ∷ cut barrier size [] later)

-- The input ends with requests in the open group.
abbrev pub IsEnd : {R : Type 0} → (List ℕ → Bool) → ℕ → List (List (Exchange R)) → List (Exchange R) → Type 0
IsEnd barrier size groups held = groups_of barrier size (concat_groups groups ++ held) ≡ groups ++ rest_of held

module _ {R : Type 0} (barrier : List ℕ → Bool) where
  -- what is cut where a request comes
  abbrev parts : ℕ → List (Exchange R) → Exchange R → List (Exchange R) → Bool → Bool → List (List (Exchange R))
  parts size held asked later apart full =
      if apart then rest_of held ++ (asked ∷ []) ∷ cut barrier size [] later
      else if full then (held ++ asked ∷ []) ∷ cut barrier size [] later
      else cut barrier size (held ++ asked ∷ []) later

  step : (size : ℕ) (held : List (Exchange R)) (asked : Exchange R) (later : List (Exchange R)) → barrier asked.body ≡ false → (b : Bool)
      → is_full size (held ++ asked ∷ []) ≡ b
      → cut barrier size held (asked ∷ later) ≡ parts size held asked later false b
  step size held asked later plain b is =
      ap (λ (a : Bool). parts size held asked later a (is_full size (held ++ asked ∷ []))) plain ∙ ap (λ (b : Bool). parts size held asked later false b) is

  pub cut_holds : (size : ℕ) (groups : List (List (Exchange R))) (held : List (Exchange R)) (asked : Exchange R) → barrier asked.body ≡ false
      → IsCut barrier size groups held → is_full size (held ++ asked ∷ []) ≡ false
      → IsCut barrier size groups (held ++ asked ∷ [])
  cut_holds size groups held asked plain cuts full later =
      ap (λ (l : List (Exchange R)). groups_of barrier size l) (shift groups held asked later) ∙ cuts (asked ∷ later)
      ∙ ap (λ (l : List (List (Exchange R))). groups ++ l) (step size held asked later plain false full)

  pub cut_ends : (size : ℕ) (groups : List (List (Exchange R))) (held : List (Exchange R)) (asked : Exchange R) → barrier asked.body ≡ false
      → IsCut barrier size groups held → is_full size (held ++ asked ∷ []) ≡ true
      → IsCut barrier size (groups ++ (held ++ asked ∷ []) ∷ []) []
  cut_ends size groups held asked plain cuts full later =
      let group = held ++ asked ∷ [] in
      ap (λ (l : List (Exchange R)). groups_of barrier size (l ++ later)) (joined_push groups group) ∙ ap (λ (l : List (Exchange R)). groups_of barrier size l)
      (append_assoc (concat_groups groups) group later ∙ shift groups held asked later)
      ∙ cuts (asked ∷ later) ∙ ap (λ (l : List (List (Exchange R))). groups ++ l) (step size held asked later plain true full)
      ∙ sym (append_assoc groups (group ∷ []) (cut barrier size [] later))

  -- the input ends here
  pub cut_last : (size : ℕ) (groups : List (List (Exchange R))) (held : List (Exchange R)) → IsCut barrier size groups held → IsEnd barrier size groups held
  cut_last size groups held cuts = ap (λ (l : List (Exchange R)). groups_of barrier size (concat_groups groups ++ l)) (sym (append-nil held)) ∙ cuts []

  -- a full group is one
  pub full_group : (size : ℕ) (groups : List (List (Exchange R))) (held : List (Exchange R)) → IsCut barrier size (groups ++ held ∷ []) []
      → IsNextGroup barrier size groups held
  full_group size groups held cuts =
      ap (λ (l : List (Exchange R)). groups_of barrier size l)
      (sym (append-nil (concat_groups groups ++ held)) ∙ ap (λ (l : List (Exchange R)). l ++ []) (sym (joined_push groups held))) ∙ cuts []
      ∙ append-nil (groups ++ held ∷ [])

  -- one request more, and the input ends
  pub cut_one : (size : ℕ) (groups : List (List (Exchange R))) (held : List (Exchange R)) (asked : Exchange R) → barrier asked.body ≡ false
      → IsCut barrier size groups held → IsNextGroup barrier size groups (held ++ asked ∷ [])
  cut_one size groups held asked plain cuts = cuts (asked ∷ []) ∙ ap (λ (l : List (List (Exchange R))). groups ++ l)
      (step size held asked [] plain (is_full size (held ++ asked ∷ [])) refl ∙ by_cases (is_full size (held ++ asked ∷ [])))
    where
      rest : (held : List (Exchange R)) → rest_of (held ++ asked ∷ []) ≡ (held ++ asked ∷ []) ∷ []
      rest [] = refl
      rest (e ∷ held) = refl

      by_cases : (full : Bool) → (if full then (held ++ asked ∷ []) ∷ rest_of [] else rest_of (held ++ asked ∷ [])) ≡ (held ++ asked ∷ []) ∷ []
      by_cases true = refl
      by_cases false = rest held

  pub group_ends : (size : ℕ) (groups : List (List (Exchange R))) (held : List (Exchange R)) → 0 < length held → IsCut barrier size groups held
      → IsNextGroup barrier size groups held
  group_ends size groups held some cuts = cut_last size groups held cuts ∙ ap (λ (l : List (List (Exchange R))). groups ++ l) (some_rest held some)

  pub ends_after : (size : ℕ) (groups : List (List (Exchange R))) (held : List (Exchange R)) → IsNextGroup barrier size groups held
      → IsEnd barrier size (groups ++ held ∷ []) []
  ends_after size groups held is = ap (λ (l : List (Exchange R)). groups_of barrier size l)
      (append-nil (concat_groups (groups ++ held ∷ [])) ∙ joined_push groups held) ∙ is ∙ sym (append-nil (groups ++ held ∷ []))

  -- the same where a request comes that is a group of its own
  pub cut_before : (size : ℕ) (groups : List (List (Exchange R))) (held : List (Exchange R)) → IsCut barrier size groups held
      → IsCutBefore barrier size groups held
  cut_before size groups held cuts asked later apart =
      cuts (asked ∷ later) ∙ ap (λ (l : List (List (Exchange R))). groups ++ l)
      (ap (λ (a : Bool). parts size held asked later a (is_full size (held ++ asked ∷ []))) apart)

  -- the open group has ended before it
  pub cut_flushed : (size : ℕ) (groups : List (List (Exchange R))) (held : List (Exchange R)) → 0 < length held → IsCutBefore barrier size groups held
      → IsCutBefore barrier size (groups ++ held ∷ []) []
  cut_flushed size groups held some before asked later apart =
      ap (λ (l : List (Exchange R)). groups_of barrier size (l ++ asked ∷ later)) (joined_push groups held)
      ∙ ap (λ (l : List (Exchange R)). groups_of barrier size l) (append_assoc (concat_groups groups) held (asked ∷ later))
      ∙ before asked later apart ∙ ap (λ (l : List (List (Exchange R))). groups ++ (l ++ (asked ∷ []) ∷ cut barrier size [] later)) (some_rest held some)
      ∙ sym (append_assoc groups (held ∷ []) ((asked ∷ []) ∷ cut barrier size [] later))

  -- and it is a group
  pub cut_apart : (size : ℕ) (groups : List (List (Exchange R))) (asked : Exchange R) → barrier asked.body ≡ true → IsCutBefore barrier size groups []
      → IsCut barrier size (groups ++ (asked ∷ []) ∷ []) []
  cut_apart size groups asked apart before later =
      ap (λ (l : List (Exchange R)). groups_of barrier size (l ++ later)) (joined_push groups (asked ∷ []))
      ∙ ap (λ (l : List (Exchange R)). groups_of barrier size l) (append_assoc (concat_groups groups) (asked ∷ []) later)
      ∙ before asked later apart ∙ sym (append_assoc groups ((asked ∷ []) ∷ []) (cut barrier size [] later))

  pub apart_group : (size : ℕ) (groups : List (List (Exchange R))) (asked : Exchange R) → barrier asked.body ≡ true → IsCutBefore barrier size groups []
      → IsNextGroup barrier size groups (asked ∷ [])
  apart_group size groups asked apart before = before asked [] apart

pub either : (b : Bool) → (b ≡ false) ⊎ (b ≡ true)
either false = inl refl
either true = inr refl
