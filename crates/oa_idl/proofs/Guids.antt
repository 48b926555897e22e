-- GUIDs of 36 characters.
use Rattle.std.proofs.Common.{◌≡◌, ℕ, List, length, Option, Some, None, Result, Ok, Err, refl, ◌∙◌}
use Rattle.std.specs.Prelude.{IsOk, IfOk, ◌↔◌}
use Rattle.std.specs.Result.{result_ok}
use Rattle.uuid.specs.Text.{parsed, parsed_hyphenated}

at_36 : (s : List ℕ) → length s ≡ 36 → parsed s ≡ parsed_hyphenated s
at_36 s e = rw e refl

parsed_is : {E : Type 0} (r : Result (List ℕ) E) (o : Option (List ℕ)) → (IsOk r ↔ ((u : List ℕ) × (o ≡ Some u)))
    → IfOk r (λ u. Some u ≡ o) → result_ok r ≡ o
parsed_is (Ok x) o both e = e
parsed_is (Err x) None both e = refl
parsed_is (Err x) (Some u) both e = let z = both.1 (u, refl) in absurd cc

pub guid_is : {E : Type 0} (s : List ℕ) (r : Result (List ℕ) E) → length s ≡ 36 → (IsOk r ↔ ((u : List ℕ) × (parsed s ≡ Some u)))
    → IfOk r (λ u. Some u ≡ parsed s) → result_ok r ≡ parsed_hyphenated s
guid_is s r long both e = parsed_is r (parsed s) both e ∙ at_36 s long
