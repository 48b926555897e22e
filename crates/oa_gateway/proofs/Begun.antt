-- Whose requests are in a batch, and when it begins.
use Rattle.std.proofs.Common.{◌≡◌, ◌≢◌, ◌⊎◌, inl, inr, ◌≤◌, ◌-◌, ℕ, zero, suc, Bool, true, false, if◌then◌else◌, List, [], ◌∷◌, refl, sym, ap, ◌∙◌, subst}
use Rattle.std.proofs.Common.{arith}
use Rattle.std.proofs.lemmas.Bool.{ltb-false, ltb-true}
use Rattle.std.specs.Prelude.{◌==◌, ◌/◌, nat_lt, Option, Some, None, ⊤}
use Rattle.oa_gateway.specs.Beginnings.{BeginsSoon, IsFree, begins, has_turns, is_free, longest_pause, pause}
use Rattle.oa_gateway.specs.Exclusive.{AllAreHolders, HasNext, WaitsFor, behind_batch, behind_holder, whose, whose_if_free}
use Rattle.oa_gateway.specs.declared.beginning.Moment.{Moment}
use Rattle.oa_gateway.specs.declared.exclusive.Exclusion.{Exclusion}
use Rattle.oa_gateway.specs.declared.exclusive.Waiting.{Waiting}
use Rattle.oa_gateway.specs.declared.exclusive.Whose.{Whose}
use Rattle.oa_gateway.specs.declared.exclusive.Whose.TheVariants.{Nobody, Holder, NextHolder, Shared}

-- ---- exclusive clients

abbrev IsHolders : Whose → Type 0
IsHolders it = (it ≡ Holder) ⊎ (it ≡ Nobody)

held : (b : Bool) → IsHolders (if b then Holder else Nobody)
held true = inl refl
held false = inr refl

its_own : (e : Exclusion) (w : Waiting) → e.is_held ≡ true → IsHolders (whose e w)
its_own e w is = rw is (held w.holder)

still_held : (it : Whose) (e : Exclusion) → e.is_held ≡ true → IsHolders it → (behind_batch it e).is_held ≡ true
still_held it e is (inl own) = rw own is
still_held it e is (inr none) = rw none is

pub all_its_own : (e : Exclusion) (all : List Waiting) → e.is_held ≡ true → AllAreHolders e all
unfolding AllAreHolders
all_its_own e [] is = cc
all_its_own e (w ∷ all) is = let own = its_own e w is in (own, all_its_own (behind_batch (whose e w) e) all (still_held (whose e w) e is own))

pub begins_alone : (e : Exclusion) (w : Waiting) (all : List Waiting) → whose e w ≡ NextHolder → AllAreHolders (behind_batch (whose e w) e) all
begins_alone e w all is = all_its_own (behind_batch (whose e w) e) all (rw is refl)

either_shared : (b : Bool) → (if b then Shared else Shared) ≡ Shared
either_shared true = refl
either_shared false = refl

pub shared_go_first : (e : Exclusion) (w : Waiting) → e.is_held ≡ false → e.others_first ≡ true → w.shared ≡ true → whose e w ≡ Shared
shared_go_first e w free first some = rw (free, first, some) (either_shared w.exclusive)

first_stays : (it : Whose) (e : Exclusion) → it ≢ Shared → (behind_batch it e).others_first ≡ e.others_first
first_stays Nobody e other = refl
first_stays Holder e other = refl
first_stays NextHolder e other = refl
first_stays Shared e other = absurd (other refl)

pub others_stay_first : (e : Exclusion) (w : Waiting) → whose e w ≢ Shared → (behind_batch (whose e w) e).others_first ≡ e.others_first
others_stay_first e w other = first_stays (whose e w) e other

held_waits : (holder exclusive shared : Bool)
    → WaitsFor (if holder then Holder else Nobody) (record { holder = holder; exclusive = exclusive; shared = shared })
held_waits true exclusive shared = refl
held_waits false exclusive shared = tt

free_waits : (first holder exclusive shared : Bool) → WaitsFor (whose_if_free first (record { holder = holder; exclusive = exclusive; shared = shared }))
    (record { holder = holder; exclusive = exclusive; shared = shared })
free_waits true holder true true = refl
free_waits true holder true false = refl
free_waits false holder true shared = refl
free_waits first holder false true = refl
free_waits first holder false false = tt

pub they_wait : (e : Exclusion) (w : Waiting) → WaitsFor (whose e w) w
they_wait e w = by e.is_held
  where
    by : (held : Bool) → WaitsFor (if held then (if w.holder then Holder else Nobody) else whose_if_free e.others_first w) w
    by true = held_waits w.holder w.exclusive w.shared
    by false = free_waits e.others_first w.holder w.exclusive w.shared

next_or : (first shared : Bool) → ((if first then (if shared then Shared else NextHolder) else NextHolder) ≡ NextHolder)
    ⊎ ((if first then (if shared then Shared else NextHolder) else NextHolder) ≡ Shared)
next_or true true = inr refl
next_or true false = inl refl
next_or false shared = inl refl

pub has_next : (e : Exclusion) (w later : Waiting) → e.is_held ≡ false → w.exclusive ≡ true → later.exclusive ≡ true → HasNext e w later
has_next e w later free now next_waits = by (next_or e.others_first w.shared)
  where
    is : whose e w ≡ (if e.others_first then (if w.shared then Shared else NextHolder) else NextHolder)
    is = rw (free, now) refl

    by : ((if e.others_first then (if w.shared then Shared else NextHolder) else NextHolder) ≡ NextHolder)
        ⊎ ((if e.others_first then (if w.shared then Shared else NextHolder) else NextHolder) ≡ Shared) → HasNext e w later
    by (inl next) = inl (is ∙ next)
    by (inr shared) = inr (is ∙ shared, rw (free, next_waits) refl)

-- ---- when a batch begins

short : (b : Bool) (quarter since : ℕ) → (b ≡ false → quarter ≤ longest_pause) → (if b then longest_pause - since else quarter - since) ≤ longest_pause - since
short true quarter since most = omega arith
short false quarter since most = let few = most refl in omega (arith, few)

none_or : (b : Bool) (rest bound : ℕ) → rest ≤ bound → (if b then 0 else rest) ≤ bound
none_or true rest bound few = omega arith
none_or false rest bound few = few

is_short : (m : Moment) → pause m ≤ longest_pause - m.since
is_short m = none_or (m.awaited == 0) _ (longest_pause - m.since)
    (short (nat_lt longest_pause (m.took / 4)) (m.took / 4) m.since (λ e. ltb-false longest_pause (m.took / 4) e))

quartered : (b : Bool) (quarter since : ℕ) → (b ≡ true → longest_pause ≤ quarter) → (if b then longest_pause - since else quarter - since) ≤ quarter - since
quartered true quarter since least = let few = least refl in omega (arith, few)
quartered false quarter since least = omega arith

is_quarter : (m : Moment) → pause m ≤ m.took / 4 - m.since
is_quarter m = none_or (m.awaited == 0) _ (m.took / 4 - m.since)
    (quartered (nat_lt longest_pause (m.took / 4)) (m.took / 4) m.since (λ e. let less = ltb-true longest_pause (m.took / 4) e in omega (arith, less)))

free_now : (m : Moment) → IsFree m → is_free m ≡ true
free_now m free = rw (free.up, free.answered, free.unheld) refl

is_none : (m : Moment) → m.awaited ≡ 0 → pause m ≡ 0
is_none m nobody = rw nobody refl

soon : (m : Moment) (w : Whose) → begins m w ≡ Some (pause m) → BeginsSoon m w
soon m w it = record { after = pause m; begins = it; soon = is_short m; quarter = is_quarter m; at_once = is_none m }

with_turns : (m : Moment) (w : Whose) → is_free m ≡ true → has_turns w ≡ true → BeginsSoon m w
with_turns m w free some = soon m w (rw (free, some) refl)

either_way : (b : Bool) (x : Option ℕ) → (if b then x else x) ≡ x
either_way true x = refl
either_way false x = refl

waits_shared : (first exclusive : Bool) → has_turns (if exclusive then (if first then Shared else NextHolder) else Shared) ≡ true
waits_shared true true = refl
waits_shared true false = refl
waits_shared false true = refl
waits_shared false false = refl

waits_exclusive : (first shared : Bool) → has_turns (if first then (if shared then Shared else NextHolder) else NextHolder) ≡ true
waits_exclusive true true = refl
waits_exclusive true false = refl
waits_exclusive false shared = refl

pub begins_for_all : (m : Moment) (e : Exclusion) (w : Waiting) → IsFree m → e.is_held ≡ false → (w.shared ≡ true) ⊎ (w.exclusive ≡ true)
    → BeginsSoon m (whose e w)
begins_for_all m e w free nobody (inl some) = with_turns m (whose e w) (free_now m free) (rw (nobody, some) (waits_shared e.others_first w.exclusive))
begins_for_all m e w free nobody (inr some) = with_turns m (whose e w) (free_now m free) (rw (nobody, some) (waits_exclusive e.others_first w.shared))

pub begins_for_one : (m : Moment) (e : Exclusion) (w : Waiting) → IsFree m → e.is_held ≡ true → w.holder ≡ true → BeginsSoon m (whose e w)
begins_for_one m e w free one some = with_turns m (whose e w) (free_now m free) (rw (one, some) refl)

pub begins_for_ends : (m : Moment) (e : Exclusion) (w : Waiting) → IsFree m → m.ends_wait ≡ true → BeginsSoon m (whose e w)
begins_for_ends m e w free some = soon m (whose e w) (rw (free_now m free, some) (either_way (has_turns (whose e w)) (Some (pause m))))
