use Rattle.std.proofs.Common.{◌-◌, ◌≤◌, List, ◌++◌, length, drop}
use Rattle.oa_tokens.specs.declared.lexer.Token.{Token}
use Rattle.oa_tokens.specs.promise.Tokens.{AreTokens}
use Rattle.oa_tokens.proofs.lexer.tokens.Given as goal

abbrev pub invariant-pieces : goal.invariant-pieces
invariant-pieces l = record {
  here : l.at ≤ length l.bytes;
  so_far : (ts : List Token) → AreTokens l.at (drop l.at l.bytes) ts
      → AreTokens 0 l.bytes (l.out.items ++ ts);
}

abbrev pub decreases-pieces : goal.decreases-pieces
decreases-pieces l = length l.bytes - l.at
