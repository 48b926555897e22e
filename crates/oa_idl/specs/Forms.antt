-- Definitions for contracts and proofs, beside promise/Forms.
use Rattle.std.specs.Prelude.{◌≡◌, List, [], ◌∷◌, ◌++◌}
use Rattle.oa_idl.specs.promise.Forms.{Word}

-- The words begin with `front` and the first word of `left`, or are exactly `front` if `left` is empty.
abbrev pub BeginsWithWords : List Word → List Word → List Word → Type 0
BeginsWithWords front [] words = words ≡ front
BeginsWithWords front (w ∷ left) words = (more : List Word) × (words ≡ front ++ w ∷ more)
