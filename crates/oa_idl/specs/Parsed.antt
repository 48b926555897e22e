-- The result of parsing the words of a text, in terms of the parsing functions.
use Rattle.std.specs.Prelude.{◌≡◌, ℕ, ◌-◌, List, length, Result, Ok, Err}
use Rattle.oa_tokens.specs.declared.lexer.Token.{Token}
use Rattle.oa_idl.specs.declared.stop.Stop.TheVariants.{Syntax}
use Rattle.oa_idl.specs.declared.stop.Stop.TheVariants as stops
use Rattle.oa_idl.specs.declared.stop.TreeLimit.{TreeLimit}
use Rattle.oa_idl.specs.declared.stop.ParseError.{ParseError}
use Rattle.oa_idl.specs.declared.stop.ParseError.TheVariants as errors
use Rattle.oa_idl.specs.promise.Trees.{TreeValue}
use Rattle.oa_idl.specs.promise.Forms.{Word}
use Rattle.oa_idl.specs.Reading.ReadStep.{Got, Stuck}
use Rattle.oa_idl.specs.GrammarReading.{library_at}
use Rattle.oa_idl.specs.TextLimits.{limit_of}
use Rattle.oa_idl.specs.IsTree.{place_after}

-- The result of `parse_words` is right. `tokens` are those of the words, in a text that ends at the offset `end`.
abbrev pub IsParsed : ℕ → List Token → List Word → Result TreeValue ParseError → Type 0
IsParsed end tokens words (Ok t) = (left : List Word) × (library_at words ≡ Got t left)
IsParsed end tokens words (Err (errors.Syntax place)) =
    (left : List Word) × (library_at words ≡ Stuck Syntax left)
    × (place ≡ place_after end tokens (length tokens - length left))
IsParsed end tokens words (Err (errors.Limit l)) =
    (left : List Word) × (broken : TreeLimit) × (l ≡ limit_of broken)
    × (library_at words ≡ Stuck (stops.Limit broken) left)
IsParsed end tokens words (Err errors.Memory) = Unit {0}
