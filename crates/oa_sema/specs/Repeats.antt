-- Definitions for contracts and proofs, beside promise/Repeats.
use Rattle.std.specs.Prelude.{ℕ, zero, suc, Bool, if◌then◌else◌, List, [], ◌∷◌, ◌++◌, Option, Some, None}
use Rattle.std.specs.List.{list_any}
use Rattle.std.specs.Option.{option_map, option_or}

-- The place of the first key that equals one before it.
unfoldable pub repeat_at : {K : Type 0} → (K → K → Bool) → List K → List K → Option ℕ
repeat_at eq before [] = None
repeat_at eq before (k ∷ ks) = if list_any (eq k) before then Some zero
    else option_map (λ n. suc n) (repeat_at eq (before ++ k ∷ []) ks)

-- The last place whose entry passes a test.
unfoldable pub last_place : {X : Type 0} → (X → Bool) → List X → Option ℕ
last_place test [] = None
last_place test (x ∷ xs) = option_or (option_map (λ n. suc n) (last_place test xs)) (if test x then Some zero else None)

-- For each entry of a list the last place before it with an equal entry; `before` are the entries that precede the
-- list.
unfoldable pub places_before : {X : Type 0} → (X → X → Bool) → List X → List X → List (Option ℕ)
places_before eq before [] = []
places_before eq before (x ∷ xs) = last_place (λ y. eq y x) before ∷ places_before eq (before ++ x ∷ []) xs
