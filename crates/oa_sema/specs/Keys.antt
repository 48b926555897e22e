-- The result of a search for a repeated key.
use Rattle.std.specs.Prelude.{◌≡◌, ◌<◌, ℕ, Bool, List, [], Option, Some, None, length}
use Rattle.oa_sema.specs.declared.repeats.Distinct.{Distinct}
use Rattle.oa_sema.specs.declared.repeats.Distinct.TheVariants.{All, Repeat}
use Rattle.oa_sema.specs.Repeats.{repeat_at}

-- The search is right: the keys, if no two are equal, or the first place whose key equals one before it.
abbrev pub TellsDistinct : {K : Type 0} → (K → K → Bool) → List K → Distinct K → Type 0
TellsDistinct eq keys (All seen) = (repeat_at eq [] keys ≡ None) × (seen.keys ≡ keys)
TellsDistinct eq keys (Repeat place) = (repeat_at eq [] keys ≡ Some place) × (place < length keys)

-- The place of a repeated key, if there is one.
abbrev pub repeat_of : {K : Type 0} → Distinct K → Option ℕ
repeat_of (All seen) = None
repeat_of (Repeat place) = Some place
