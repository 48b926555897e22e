-- Definitions for contracts and proofs, beside promise/IsTree.
use Rattle.std.specs.Prelude.{◌≡◌, ℕ, ◌<◌, slice_get, Option, Some, None, List, ◌∷◌, ◌++◌, length, Result, Ok, Err}
use Rattle.oa_model.specs.promise.Limits.{max_library_bytes}
use Rattle.oa_tokens.specs.declared.lexer.Token.{Token}
use Rattle.oa_idl.specs.declared.stop.TreeLimit.{TreeLimit}
use Rattle.oa_idl.specs.declared.stop.TreeLimit.TheVariants as limits
use Rattle.oa_idl.specs.declared.stop.Limit.TheVariants as texts
use Rattle.oa_idl.specs.declared.stop.ParseError.{ParseError}
use Rattle.oa_idl.specs.declared.stop.ParseError.TheVariants as errors
use Rattle.oa_idl.specs.promise.Trees.{TreeValue}
use Rattle.oa_tokens.specs.promise.Tokens.{AreTokens}
use Rattle.oa_idl.specs.promise.Forms.{Word}
use Rattle.oa_idl.specs.Forms.{BeginsWithWords}
use Rattle.oa_idl.specs.promise.Words.{words_of}
use Rattle.oa_idl.specs.Words.{NamedAt}
use Rattle.oa_idl.specs.promise.Grammar.{library}
use Rattle.oa_idl.specs.promise.Limits.{KeepsLimit}
use Rattle.oa_idl.specs.promise.IsTree.{MayBeText, IsTree}

-- The offset of a token; that of the end if there is none.
abbrev pub token_place : ℕ → Option Token → ℕ
token_place end None = end
token_place end (Some t) = t.start

-- The offset of the token after `n` others, or of the end.
abbrev pub place_after : ℕ → List Token → ℕ → ℕ
place_after end tokens n = token_place end (slice_get tokens n)

-- The token at this offset is refused: no text of the grammar whose tree is in `P` begins with the tokens up to and
-- including this one.
pub record Refused (P : TreeValue → Type 0) (text : List ℕ) (place : ℕ) : Type 0 where
  pub tokens : List Token
  pub are : AreTokens 0 text tokens
  pub front : List Word
  pub left : List Word
  pub parts : words_of text tokens ≡ front ++ left
  pub at : place ≡ place_after (length text) tokens (length front)
  pub never : (t : TreeValue) (other : List Word) → P t → library t other → BeginsWithWords front left other → ⊥

abbrev pub AnyTree : TreeValue → Type 0
AnyTree t = Unit {0}

-- A limit is exceeded at a name: no text of the grammar whose tree keeps the limit begins with the tokens up to and
-- including that name.
pub record BrokenAt (l : TreeLimit) (text : List ℕ) : Type 0 where
  pub tokens : List Token
  pub are : AreTokens 0 text tokens
  pub front : List Word
  pub word : Word
  pub left : List Word
  pub parts : words_of text tokens ≡ front ++ word ∷ left
  pub named : NamedAt l word
  pub never : (t : TreeValue) (other more : List Word) → KeepsLimit l t → library t other → other ≡ front ++ word ∷ more
      → ⊥

-- The text is not too long, and exceeds another limit.
abbrev pub BreaksLimit : TreeLimit → List ℕ → Type 0
BreaksLimit l text = MayBeText text × BrokenAt l text

-- The result of `parse` is right: the tree of the text, a token that is refused, a limit that is exceeded, or no memory
-- for a text that is not too long.
abbrev pub AnswersText : List ℕ → Result TreeValue ParseError → Type 0
AnswersText text (Ok t) = IsTree text t
AnswersText text (Err (errors.Syntax place)) = MayBeText text × Refused AnyTree text place
AnswersText text (Err (errors.Limit texts.Text)) = max_library_bytes < length text
AnswersText text (Err (errors.Limit texts.Name)) = BreaksLimit limits.Name text
AnswersText text (Err (errors.Limit texts.Interfaces)) = BreaksLimit limits.Interfaces text
AnswersText text (Err (errors.Limit texts.Coclasses)) = BreaksLimit limits.Coclasses text
AnswersText text (Err (errors.Limit texts.Members)) = BreaksLimit limits.Members text
AnswersText text (Err (errors.Limit texts.Params)) = BreaksLimit limits.Params text
AnswersText text (Err errors.Memory) = MayBeText text

-- The result of `parse` for a text with this tree is the tree, or `Memory`.
abbrev pub AnswersTree : TreeValue → Result TreeValue ParseError → Type 0
AnswersTree t (Ok u) = u ≡ t
AnswersTree t (Err (errors.Syntax place)) = ⊥
AnswersTree t (Err (errors.Limit l)) = ⊥
AnswersTree t (Err errors.Memory) = Unit {0}
