-- Pieces of many clients' own streams, one after another, and what each client has of them. (This project's choice.)
use Rattle.std.specs.Prelude.{ℕ, ◌==◌, if◌then◌else◌, List, [], ◌∷◌}

-- a piece of one client's own stream: a byte of it, or its end
pub data StreamPiece : Type 0 where
  Byte : ℕ → StreamPiece
  Last : StreamPiece

-- tagged: of one client, by its number, or *now*, of all: held requests are to be committed and answered
pub data Tagged (X : Type 0) : Type 0 where
  Of : ℕ → X → Tagged X
  Flush : Tagged X

-- all these with one client's tag
unfoldable pub tag_all : {X : Type 0} → ℕ → List X → List (Tagged X)
tag_all client [] = []
tag_all client (x ∷ xs) = Of client x ∷ tag_all client xs

-- a state for each client, and one of them changed
abbrev pub States : Type 0 → Type 0
States Z = ℕ → Z

abbrev pub with_state_at : {Z : Type 0} → ℕ → Z → States Z → States Z
with_state_at client at states other = if client == other then at else states other
