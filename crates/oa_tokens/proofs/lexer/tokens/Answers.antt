use Rattle.std.proofs.Common.{rules, subst}
use Rattle.oa_tokens.specs.promise.Tokens.{AreTokens}
use Rattle.oa_tokens.proofs.Steps.{gap_more, word_more, junk_ends, all_read}
use Rattle.oa_tokens.proofs.lexer.tokens.Goals as goal

pub pieces-preserved-in-Gap : goal.pieces-preserved-in-Gap
pieces-preserved-in-Gap c = record {
  here = search (rules, c.in-Gap.ensures.size);
  so_far = gap_more c.as_bytes-bytes.result.now c.pieces.out.items c.pieces.at c.in-Gap.n (search rules) c.in-Gap.ensures.value c.pieces.invariant.so_far;
}

pub pieces-preserved : goal.pieces-preserved
pieces-preserved c = record {
  here = search (rules, c.in-Word.ensures.size);
  so_far = word_more c.as_bytes-bytes.result.now c.pieces.out.items c.push.new.self.items c.pieces.at c.in-Word.n c.in-Word.kind
      (search rules) c.in-Word.ensures.value (search rules) c.pieces.invariant.so_far;
}

pub returns-in-Broken : goal.returns-in-Broken
returns-in-Broken c = subst (λ l. AreTokens 0 l c.push-in-Broken.new.self.items) c.as_bytes-bytes.ensures.value
    (junk_ends c.as_bytes-bytes.result.now c.pieces.out.items c.push-in-Broken.new.self.items c.pieces.at (search rules) c.in-Broken.ensures.value
    (search rules) c.pieces.invariant.so_far)

pub returns : goal.returns
returns c = subst (λ l. AreTokens 0 l c.pieces.out.items) c.as_bytes-bytes.ensures.value
    (all_read c.as_bytes-bytes.result.now c.pieces.out.items c.pieces.at (search rules) c.pieces.invariant.so_far)
