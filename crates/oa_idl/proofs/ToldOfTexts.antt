-- The result for a text, from the result of parsing its words and the place at which parsing stopped.
use Rattle.std.proofs.Common.{◌≡◌, ℕ, ◌-◌, List, length, Result, Ok, Err, refl, sym, subst}
use Rattle.std.specs.Result.{MatchResult, IsErrAnd}
use Rattle.oa_tokens.specs.declared.lexer.Token.{Token}
use Rattle.oa_idl.specs.declared.stop.Stop.{Stop}
use Rattle.oa_idl.specs.declared.stop.Stop.TheVariants.{Syntax, Memory}
use Rattle.oa_idl.specs.declared.stop.Stop.TheVariants as stops
use Rattle.oa_idl.specs.declared.stop.ParseError.{ParseError}
use Rattle.oa_idl.specs.promise.Trees.{TreeValue}
use Rattle.oa_idl.specs.promise.Forms.{Word}
use Rattle.oa_idl.specs.Reading.{ReadsWords}
use Rattle.oa_idl.specs.GrammarReading.{library_at}
use Rattle.oa_idl.specs.TextLimits.{error_of}
use Rattle.oa_idl.specs.IsTree.{place_after}
use Rattle.oa_idl.specs.Parsed.{IsParsed}

stop_told : (end place : ℕ) (tokens : List Token) (words left : List Word) (stop : Stop) → place ≡ place_after end tokens (length tokens - length left)
    → ReadsWords {X = TreeValue} (λ t. t) (Err stop) left (library_at words) → IsParsed end tokens words (Err (error_of place stop))
stop_told end place tokens words left Syntax at read = (left, read, at)
stop_told end place tokens words left (stops.Limit l) at read = (left, l, refl, read)
stop_told end place tokens words left Memory at read = tt

-- `error` is the error for each stop.
pub parsed : (end place : ℕ) (tokens : List Token) (words left : List Word) (read : Result TreeValue Stop) (error : Stop → ParseError → Type 0)
    (result : Result TreeValue ParseError)
    → ((stop : Stop) (e : ParseError) → error stop e → e ≡ error_of place stop) → place ≡ place_after end tokens (length tokens - length left)
    → ReadsWords {X = TreeValue} (λ t. t) read left (library_at words)
    → MatchResult read (λ t. result ≡ Ok t) (λ stop. IsErrAnd result (error stop)) → IsParsed end tokens words result
parsed end place tokens words left (Ok t) error result is at given cases = subst (IsParsed end tokens words) (sym cases) (left, given)
parsed end place tokens words left (Err stop) error (Ok t) is at given cases = absurd cases
parsed end place tokens words left (Err stop) error (Err e) is at given cases = subst (λ (f : ParseError). IsParsed end tokens words (Err f))
    (sym (is stop e cases)) (stop_told end place tokens words left stop at given)
