-- The ends that are sent, and those that come.
use Rattle.std.proofs.Common.{◌≡◌, ◌<◌, ℕ, zero, suc, ◌+◌, ◌-◌, Bool, true, false, if◌then◌else◌, List, [], ◌∷◌, ◌++◌, refl, arith}
use Rattle.std.specs.Prelude.{◌==◌}
use Rattle.std.proofs.lemmas.Bool.{eqb-true}
use Rattle.oa_mux.specs.promise.Marks.{StreamPiece, Last}
use Rattle.oa_mux.specs.Marks.{pieces}
use Rattle.oa_gateway.specs.Places.{Closes, Deed, Hears, HearsEnd, Leaves, Number, Sends, Wrong, after_deed, deed_outcome, owes, puts, stands}
use Rattle.oa_gateway.specs.Traces.{IsSound, after_deeds, all_owed, ends_by, ends_heard, ends_sent, own_end, stream}
use Rattle.oa_gateway.specs.declared.place.Standing.{Standing}
use Rattle.oa_gateway.specs.declared.place.Standing.TheVariants.{Absent, Present, Ending, Over}

no_ends : (bytes : List ℕ) → ends_sent (pieces bytes) ≡ 0
unfolding ends_sent pieces
no_ends [] = refl
no_ends (x ∷ xs) = let h = no_ends xs in omega (arith, h)

ends_append : (xs ys : List StreamPiece) → ends_sent (xs ++ ys) ≡ ends_sent xs + ends_sent ys
unfolding ends_sent
ends_append [] ys = omega arith
ends_append (x ∷ xs) ys = let h = ends_append xs ys in omega (arith, h)

one : ends_sent (Last ∷ []) ≡ 1
unfolding ends_sent
one = refl

nothing : ends_sent [] ≡ 0
unfolding ends_sent
nothing = refl

abbrev at : Standing → ℕ → Number
at s owed = record { standing = s; owed = owed }

counted_end : (b : Bool) (owed : ℕ) → (b ≡ true → owed ≡ 0) → (b ≡ false → 0 < owed)
    → ends_sent [] + (1 + owed) ≡ 1 + (own_end (if b then Over else Ending) + (owed - 1))
counted_end true owed none some = let h = none refl in omega (arith, nothing, h)
counted_end false owed none some = let h = some refl in omega (arith, nothing, h)

counted : (s : Standing) (owed : ℕ) (deed : Deed) → (deed_outcome (at s owed) deed ≡ Wrong → ⊥)
    → ends_sent (puts s deed) + (own_end s + owed) ≡ ends_by deed + (own_end (stands owed s deed) + owes owed s deed)
counted Absent owed (Sends b) sound = let h = no_ends b in omega (arith, h)
counted Present owed (Sends b) sound = let h = no_ends b in omega (arith, h)
counted Ending owed (Sends b) sound = omega (arith, nothing)
counted Over owed (Sends b) sound = omega (arith, nothing)
counted Absent owed Closes sound = omega (arith, nothing)
counted Present owed Closes sound = omega (arith, one)
counted Ending owed Closes sound = omega (arith, nothing)
counted Over owed Closes sound = omega (arith, nothing)
counted Absent owed Leaves sound = omega (arith, nothing)
counted Present owed Leaves sound = omega (arith, one)
counted Ending owed Leaves sound = omega (arith, nothing)
counted Over owed Leaves sound = omega (arith, nothing)
counted Absent owed (Hears b) sound = omega (arith, nothing)
counted Present owed (Hears b) sound = omega (arith, nothing)
counted Ending owed (Hears b) sound = omega (arith, nothing)
counted Over owed (Hears b) sound = omega (arith, nothing)
counted Absent zero HearsEnd sound = absurd (sound refl)
counted Present zero HearsEnd sound = absurd (sound refl)
counted Ending zero HearsEnd sound = omega (arith, nothing)
counted Over zero HearsEnd sound = absurd (sound refl)
counted Absent (suc k) HearsEnd sound = omega (arith, nothing)
counted Present (suc k) HearsEnd sound = omega (arith, nothing)
counted Ending (suc k) HearsEnd sound = counted_end (suc k == 0) (suc k) (λ e. eqb-true (suc k) 0 e) (λ e. omega arith)
counted Over (suc k) HearsEnd sound = omega (arith, nothing)

pub all_counted : (n : Number) (deeds : List Deed) → IsSound n deeds → ends_sent (stream n deeds) + all_owed n ≡ ends_heard deeds + all_owed
    (after_deeds n deeds)
unfolding IsSound stream after_deeds ends_heard
all_counted n [] sound = omega (arith, nothing)
all_counted n (deed ∷ deeds) sound =
    let a = ends_append (puts n.standing deed) (stream (after_deed n deed) deeds) in
    let b = counted n.standing n.owed deed sound.0 in
    let c = all_counted (after_deed n deed) deeds sound.1 in
    omega (arith, a, b, c)
