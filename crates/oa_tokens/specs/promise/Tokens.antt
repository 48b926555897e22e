-- The tokens of a text.
use Rattle.std.specs.Prelude.{◌≡◌, ℕ, ◌+◌, ◌==◌, ◌<◌, ◌&&◌, false, if◌then◌else◌, List, [], ◌∷◌, length, drop, get_or}
use Rattle.std.specs.Prelude.{Option, Some, None}
use Rattle.oa_tokens.specs.declared.scan.Class.TheVariants.{Digit, Hexadecimal, Letter, Named, Blank, Line}
use Rattle.oa_tokens.specs.declared.scan.Class.TheVariants as classes
use Rattle.oa_tokens.specs.declared.scan.Close.TheVariants.{Quote, Comment}
use Rattle.oa_tokens.specs.declared.lexer.TokenKind.{TokenKind}
use Rattle.oa_tokens.specs.declared.lexer.TokenKind.TheVariants.{Guid, Name, Number, Text, Junk}
use Rattle.oa_tokens.specs.declared.lexer.TokenKind.TheVariants as kinds
use Rattle.oa_tokens.specs.declared.lexer.Token.{Token}
use Rattle.oa_tokens.specs.declared.lexer.Piece.{Piece}
use Rattle.oa_tokens.specs.declared.lexer.Piece.TheVariants.{Word, Gap, Broken}
use Rattle.oa_tokens.specs.promise.Bytes.{is_in, run, end_from, is_guid}

-- A piece that must be closed; `Broken` if it is not.
abbrev pub closed : (ℕ → Piece) → ℕ → Option ℕ → Piece
closed make before None = Broken
closed make before (Some n) = make (before + n)

-- The first piece of some bytes: a token, a blank or a comment.
unfoldable pub front : List ℕ → Piece
front bs =
    if is_guid bs then Word Guid 36
    else (if is_in Letter (get_or bs 0 0) then Word Name (1 + run (is_in Named) (drop 1 bs))
    else (if get_or bs 0 0 == 48 && get_or bs 1 0 == 120 then (if run (is_in Hexadecimal)
    (drop 2 bs) == 0 then Word Number 1 else Word Number (2 + run (is_in Hexadecimal) (drop 2 bs)))
    else (if is_in Digit (get_or bs 0 0) then Word Number (1 + run (is_in Digit) (drop 1 bs))
    else (if get_or bs 0 0 == 34 then closed (Word Text) 1 (end_from Quote false (drop 1 bs))
    else (if is_in classes.Mark (get_or bs 0 0) then Word kinds.Mark 1
    else (if is_in Blank (get_or bs 0 0) then Gap 1
    else (if get_or bs 0 0 == 47 && get_or bs 1 0 == 47 then Gap (2 + run (is_in Line) (drop 2 bs))
    else (if get_or bs 0 0 == 47 && get_or bs 1 0 == 42 then closed Gap 2 (end_from Comment false (drop 2 bs))
    else Broken))))))))

abbrev pub token : TokenKind → ℕ → ℕ → Token
token kind start end = record { kind = kind; start = start; end = end }

-- These are the tokens of the bytes that begin at an offset.
pub data AreTokens : ℕ → List ℕ → List Token → Type 0 where
  End : (p : ℕ) → AreTokens p [] []
  Apart : (p n : ℕ) (bs : List ℕ) (ts : List Token) → 0 < length bs → front bs ≡ Gap n
      → AreTokens (p + n) (drop n bs) ts → AreTokens p bs ts
  Next : (p n : ℕ) (kind : TokenKind) (bs : List ℕ) (ts : List Token) → 0 < length bs → front bs ≡ Word kind n
      → AreTokens (p + n) (drop n bs) ts → AreTokens p bs (token kind p (p + n) ∷ ts)
  Rest : (p : ℕ) (bs : List ℕ) → 0 < length bs → front bs ≡ Broken → AreTokens p bs (token Junk p (p + length bs) ∷ [])
