-- Loops that append to one list a result for each entry of another.
use Rattle.std.proofs.Common.{◌≡◌, ◌<◌, ◌+◌, ℕ, List, [], ◌∷◌, ◌++◌, length, map, take, get_or, sym, ap, ◌∙◌}
use Rattle.std.proofs.lemmas.List.{take_more, map-append}

-- one turn: x is added for y, the member at place n
pub mapped_more : {X Y Z : Type 0} (f : X → Z) (g : Y → Z) (old new : List X) (all : List Y) (n : ℕ) (x : X) (y : Y)
    → map f old ≡ map g (take n all) → new ≡ old ++ x ∷ [] → f x ≡ g y → n < length all → y ≡ get_or all n y
    → map f new ≡ map g (take (n + 1) all)
mapped_more f g old new all n x y so_far added same within at =
    let taken : take (n + 1) all ≡ take n all ++ y ∷ [] = take_more all n y within ∙ ap (λ z. take n all ++ z ∷ []) (sym at) in
    ap (map f) added ∙ map-append f old (x ∷ []) ∙ ap (λ zs. zs ++ f x ∷ []) so_far ∙ ap (λ z. map g (take n all) ++ z ∷ []) same
    ∙ sym (map-append g (take n all) (y ∷ [])) ∙ sym (ap (map g) taken)
