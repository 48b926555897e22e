-- The distinct keys of a list, with the places at which each appears.
use Rattle.std.specs.Prelude.{ℕ, zero, suc, Bool, if◌then◌else◌, List, [], ◌∷◌, ◌++◌, map, fold, slice_get, Option}
use Rattle.std.specs.Prelude.{Some, None}
use Rattle.std.specs.Option.{unwrap_or}
use Rattle.indexmap.specs.IndexSet.{insert_key}

-- Each key once, in the order of their first appearance.
abbrev pub distinct : {K : Type 0} → (K → K → Bool) → List K → List K
distinct eq keys = fold (insert_key eq) [] keys

-- Keys, and at the same position the places of each.
pub record GroupsValue (K : Type 0) : Type 0 where
  pub keys : List K
  pub places : List (List ℕ)

-- The places at which a key appears in a list, counted from 0.
unfoldable pub places_of : {K : Type 0} → (K → K → Bool) → K → List K → List ℕ
places_of eq key [] = []
places_of eq key (k ∷ ks) = if eq key k then zero ∷ map (λ n. suc n) (places_of eq key ks)
    else map (λ n. suc n) (places_of eq key ks)

-- The distinct keys of a list, with the places of each.
abbrev pub keys_with_places : {K : Type 0} → (K → K → Bool) → List K → GroupsValue K
keys_with_places eq keys =
    record { keys = distinct eq keys; places = map (λ k. places_of eq k keys) (distinct eq keys) }

-- Appends a place to the group with this number; a number past the last makes a new group.
unfoldable pub with_place : ℕ → ℕ → List (List ℕ) → List (List ℕ)
with_place group place [] = (place ∷ []) ∷ []
with_place zero place (ps ∷ pss) = (ps ++ place ∷ []) ∷ pss
with_place (suc n) place (ps ∷ pss) = ps ∷ with_place n place pss

-- The places of a group; none for None.
abbrev pub places_in : Option ℕ → List (List ℕ) → List ℕ
places_in None places = []
places_in (Some n) places = unwrap_or (slice_get places n) []
