-- A loop that writes each of a list anew.
use Rattle.std.proofs.Common.{◌≡◌, ◌<◌, ◌≤◌, ◌+◌, ℕ, suc, [], ◌∷◌, ◌++◌, List, length, map, take, drop, get_or, sym, ap, ◌∙◌, arith, add-one}
use Rattle.std.proofs.Math.Seq.{drop-cons}
use Rattle.std.proofs.Math.ListN.{set}
use Rattle.std.proofs.lemmas.List.{take_more, take_more_set, take_all, map-append, drop-set-lt}

-- a turn of a loop that writes f of each
pub turn_writes : {X : Type 0} (f : X → X) (xs ys : List X) (i : ℕ) (x y : X) → i < length xs → length ys ≡ length xs → take i ys ≡ map f (take i xs)
    → drop i ys ≡ drop i xs → x ≡ get_or ys i x → y ≡ f (get_or ys i x) → (take (i + 1) (set ys i y) ≡ map f (take (i + 1) xs))
    × (drop (i + 1) (set ys i y) ≡ drop (i + 1) xs)
turn_writes f xs ys i x y h len before after is new =
    let h2 : i < length ys = omega (arith, h, len) in
    let p = drop-cons ys i x h2 in
    let q = drop-cons xs i x h in
    let r : get_or ys i x ∷ drop (suc i) ys ≡ get_or xs i x ∷ drop (suc i) xs = sym p ∙ after ∙ q in
    let heads : get_or ys i x ≡ get_or xs i x = cc in
    let tails : drop (suc i) ys ≡ drop (suc i) xs = cc in (
      take_more_set ys i y h2 ∙ ap (λ zs. zs ++ y ∷ []) before ∙ ap (λ z. map f (take i xs) ++ z ∷ []) (new ∙ ap f heads)
          ∙ sym (ap (map f) (take_more xs i x h) ∙ map-append f (take i xs) (get_or xs i x ∷ [])),
      drop-set-lt (i + 1) ys i y (omega arith) ∙ rw add-one tails,
    )

pub all_written : {X : Type 0} (f : X → X) (xs ys : List X) (i : ℕ) → length xs ≤ i → length ys ≡ length xs → take i ys ≡ map f (take i xs) → ys ≡ map f xs
all_written f xs ys i h len before = sym (take_all i ys (omega (arith, h, len))) ∙ before ∙ ap (map f) (take_all i xs h)
