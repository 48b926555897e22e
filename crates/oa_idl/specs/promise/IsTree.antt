-- The result of parsing a text.
use Rattle.std.specs.Prelude.{ℕ, ◌≤◌, List, length}
use Rattle.oa_model.specs.promise.Limits.{max_library_bytes}
use Rattle.oa_tokens.specs.declared.lexer.Token.{Token}
use Rattle.oa_idl.specs.declared.stop.TreeLimit.{TreeLimit}
use Rattle.oa_idl.specs.promise.Trees.{TreeValue}
use Rattle.oa_tokens.specs.promise.Tokens.{AreTokens}
use Rattle.oa_idl.specs.promise.Words.{words_of}
use Rattle.oa_idl.specs.promise.Grammar.{library}
use Rattle.oa_idl.specs.promise.Limits.{KeepsLimit}

-- The text is at most `max_library_bytes` long.
abbrev pub MayBeText : List ℕ → Type 0
MayBeText text = length text ≤ max_library_bytes

-- The text encodes this tree: its tokens are in the grammar with the tree, and the text and the tree keep all limits.
pub record IsTree (text : List ℕ) (t : TreeValue) : Type 0 where
  pub short : MayBeText text
  pub tokens : List Token
  pub are : AreTokens 0 text tokens
  pub form : library t (words_of text tokens)
  pub kept : (l : TreeLimit) → KeepsLimit l t
