-- The next word of a reader.
use Rattle.std.specs.Prelude.{ℕ, if◌then◌else◌, List, [], ◌∷◌, Option, Some, None, Result, Ok, Err}
use Rattle.std.specs.Borrow.{Bor}
use Rattle.oa_tokens.specs.declared.lexer.TokenKind.{TokenKind}
use Rattle.oa_idl.specs.declared.stop.Stop.{Stop}
use Rattle.oa_idl.specs.promise.Forms.{Word}
use Rattle.oa_idl.specs.promise.Words.{same_kind}

-- The bytes of the next word, if it has this kind.
abbrev pub token_text : TokenKind → List Word → Option (List ℕ)
token_text kind [] = None
token_text kind (w ∷ words) = if same_kind w.kind kind then Some w.text else None

-- The bytes that a call of the code returns, if any.
abbrev pub seen_text : Result (Bor (List ℕ)) Stop → Option (List ℕ)
seen_text (Ok text) = Some text.now
seen_text (Err e) = None
