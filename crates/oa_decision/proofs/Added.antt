-- Fields that are added one behind the other.
use Rattle.std.proofs.Common.{◌≡◌, ℕ, List, [], ◌∷◌, ◌++◌, sym, ◌∙◌, append_assoc}
use Rattle.std.specs.List.{flat_map}
use Rattle.std.proofs.lemmas.List.{append-nil}

pub goes_on : {X : Type 0} (field : X → List ℕ) (x : X) (rest : List X) (out total : List ℕ) → out ++ flat_map field (x ∷ rest) ≡ total
    → (out ++ field x) ++ flat_map field rest ≡ total
goes_on field x rest out total h = append_assoc out (field x) (flat_map field rest) ∙ h

pub is_done : {X : Type 0} (field : X → List ℕ) (out total : List ℕ) → out ++ flat_map field [] ≡ total → out ≡ total
is_done field out total h = sym (append-nil out) ∙ h
