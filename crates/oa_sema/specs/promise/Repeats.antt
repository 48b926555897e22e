-- Repetitions in a list, and searches in one.
use Rattle.std.specs.Prelude.{◌≡◌, ℕ, Bool, if◌then◌else◌, List, [], ◌∷◌, ◌++◌, slice_get, Option, Some, None}
use Rattle.std.specs.List.{list_any}
use Rattle.std.specs.Option.{option_or}

-- The value is an entry of the list.
abbrev pub Has : {X : Type 0} → List X → X → Type 0
Has xs x = (place : ℕ) × (slice_get xs place ≡ Some x)

-- The first entry whose key equals one of the keys before it.
unfoldable pub first_repeat : {X K : Type 0} → (K → K → Bool) → (X → K) → List K → List X → Option X
first_repeat eq key before [] = None
first_repeat eq key before (x ∷ xs) = if list_any (eq (key x)) before then Some x
    else first_repeat eq key (before ++ key x ∷ []) xs

-- The first result of the function for an entry of the list.
unfoldable pub first_answer : {X Y : Type 0} → (X → Option Y) → List X → Option Y
first_answer answer [] = None
first_answer answer (x ∷ xs) = option_or (answer x) (first_answer answer xs)

-- The first result of the function for an entry of the list and the entries before it.
unfoldable pub first_after : {X Y : Type 0} → (List X → X → Option Y) → List X → List X → Option Y
first_after answer before [] = None
first_after answer before (x ∷ xs) = option_or (answer before x) (first_after answer (before ++ x ∷ []) xs)
