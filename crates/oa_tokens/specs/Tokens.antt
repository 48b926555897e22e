-- Definitions for contracts and proofs, beside promise/Tokens.
use Rattle.std.specs.Prelude.{ℕ, ◌<◌, ◌≤◌, List, [], ◌∷◌}
use Rattle.oa_tokens.specs.declared.lexer.Token.{Token}
use Rattle.oa_tokens.specs.declared.lexer.Piece.{Piece}
use Rattle.oa_tokens.specs.declared.lexer.Piece.TheVariants.{Word, Gap, Broken}

-- Each token has at least one byte and begins at or after the end of the one before it, the first at or after `from`;
-- the last ends at or before `end`.
abbrev pub AreInOrder : ℕ → ℕ → List Token → Type 0
AreInOrder from end [] = from ≤ end
AreInOrder from end (t ∷ ts) = (from ≤ t.start) × (t.start < t.end) × AreInOrder t.end end ts

-- The first piece has at least one byte, and at most all of them.
abbrev pub IsPiece : Piece → ℕ → Type 0
IsPiece (Word kind n) len = (0 < n) × (n ≤ len)
IsPiece (Gap n) len = (0 < n) × (n ≤ len)
IsPiece Broken len = Unit {0}
