-- Definitions for contracts and proofs, beside promise/Marks.
use Rattle.std.specs.Prelude.{ℕ, ◌==◌, Bool, if◌then◌else◌, List, [], ◌∷◌}
use Rattle.oa_mux.specs.promise.Marks.{StreamPiece, Tagged}
use Rattle.oa_mux.specs.promise.Marks.StreamPiece.{Byte}
use Rattle.oa_mux.specs.promise.Marks.Tagged.{Of, Flush}

-- x in front if it is that client's
abbrev pub if_own : {X : Type 0} → Bool → X → List X → List X
if_own own x xs = if own then x ∷ xs else xs

-- those of one client, in order
unfoldable pub own : {X : Type 0} → ℕ → List (Tagged X) → List X
own client [] = []
own client (Of other x ∷ items) = if_own (other == client) x (own client items)
own client (Flush ∷ items) = own client items

-- the pieces of these bytes
unfoldable pub pieces : List ℕ → List StreamPiece
pieces [] = []
pieces (x ∷ xs) = Byte x ∷ pieces xs
