-- What a client is given.
use Rattle.std.specs.Prelude.{◌==◌}
use Rattle.std.proofs.Common.{◌≡◌, ◌<◌, ℕ, zero, suc, ◌-◌, false, if◌then◌else◌, List, [], ◌∷◌, ◌++◌, refl, ap, ◌∙◌, arith}
use Rattle.oa_gateway.specs.Places.{Closes, Deed, Dropped, Hears, HearsEnd, Leaves, Number, Sends, after_deed, deed_outcome, hears_own, stands}
use Rattle.oa_gateway.specs.Traces.{IsSound, given_bytes, given_of, said_behind}
use Rattle.oa_gateway.specs.declared.place.Standing.{Standing}
use Rattle.oa_gateway.specs.declared.place.Standing.TheVariants.{Absent, Present, Ending, Over}

abbrev at : Standing → ℕ → Number
at s owed = record { standing = s; owed = owed }

nothing_more : (deeds : List Deed) → IsSound (at Over 0) deeds → given_bytes (at Over 0) deeds ≡ []
unfolding IsSound given_bytes
nothing_more [] sound = refl
nothing_more (Sends b ∷ deeds) sound = nothing_more deeds sound.1
nothing_more (Closes ∷ deeds) sound = nothing_more deeds sound.1
nothing_more (Leaves ∷ deeds) sound = refl
nothing_more (Hears b ∷ deeds) sound = absurd (sound.0 refl)
nothing_more (HearsEnd ∷ deeds) sound = absurd (sound.0 refl)

dropped : (s : Standing) (k : ℕ) (bytes : List ℕ) → deed_outcome (at s (suc k)) (Hears bytes) ≡ Dropped
dropped s k bytes =
    let some : 0 < suc k = omega arith in
    let e : (suc k == 0) ≡ false = search (arith, some) in
    ap (λ b. if b then hears_own s bytes else Dropped) e

given_at : (s : Standing) (owed : ℕ) (deeds : List Deed) → IsSound (at s owed) deeds → given_bytes (at s owed) deeds ≡ said_behind owed deeds
unfolding IsSound given_bytes said_behind
given_at s owed [] sound = refl
given_at s owed (Sends b ∷ deeds) sound = given_at (stands owed s (Sends b)) owed deeds sound.1
given_at s owed (Closes ∷ deeds) sound = given_at (stands owed s Closes) owed deeds sound.1
given_at s owed (Leaves ∷ deeds) sound = refl
given_at Absent zero (Hears b ∷ deeds) sound = absurd (sound.0 refl)
given_at Present zero (Hears b ∷ deeds) sound = ap (λ l. b ++ l) (given_at Present 0 deeds sound.1)
given_at Ending zero (Hears b ∷ deeds) sound = ap (λ l. b ++ l) (given_at Ending 0 deeds sound.1)
given_at Over zero (Hears b ∷ deeds) sound = absurd (sound.0 refl)
given_at s (suc k) (Hears b ∷ deeds) sound =
    ap (λ t. given_of t ++ given_bytes (after_deed (at s (suc k)) (Hears b)) deeds) (dropped s k b)
    ∙ given_at (stands (suc k) s (Hears b)) (suc k) deeds sound.1
given_at Absent zero (HearsEnd ∷ deeds) sound = absurd (sound.0 refl)
given_at Present zero (HearsEnd ∷ deeds) sound = absurd (sound.0 refl)
given_at Ending zero (HearsEnd ∷ deeds) sound = nothing_more deeds sound.1
given_at Over zero (HearsEnd ∷ deeds) sound = absurd (sound.0 refl)
given_at s (suc k) (HearsEnd ∷ deeds) sound =
    let e : suc k - 1 ≡ k = omega arith in
    given_at (stands (suc k) s HearsEnd) (suc k - 1) deeds sound.1 ∙ ap (λ n. said_behind n deeds) e

pub is_given : (n : Number) (deeds : List Deed) → IsSound n deeds → given_bytes n deeds ≡ said_behind n.owed deeds
is_given n deeds sound = given_at n.standing n.owed deeds sound
