-- Characters as 16-bit units.
use Rattle.std.proofs.Common.{◌≡◌, ◌<◌, ◌+◌, ◌*◌, ℕ, List, [], ◌∷◌, ◌++◌, length, take, get_or, refl, ap, ◌∙◌, arith}
use Rattle.std.proofs.lemmas.List.{take_more}
use Rattle.oa_sema.specs.promise.Defaults.{wide}

wide-append : (xs ys : List ℕ) → wide (xs ++ ys) ≡ wide xs ++ wide ys
unfolding wide
wide-append [] ys = refl
wide-append (x ∷ xs) ys = ap (λ zs. x ∷ 0 ∷ zs) (wide-append xs ys)

pub wide_more : (xs : List ℕ) (i d : ℕ) → i < length xs → wide (take (i + 1) xs) ≡ wide (take i xs) ++ get_or xs i d ∷ 0 ∷ []
unfolding wide
wide_more xs i d h = ap wide (take_more xs i d h) ∙ wide-append (take i xs) (get_or xs i d ∷ [])

pub length-wide : (xs : List ℕ) → length (wide xs) ≡ 2 * length xs
unfolding wide
length-wide [] = refl
length-wide (x ∷ xs) = let h = length-wide xs in omega (arith, h)
