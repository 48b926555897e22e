use Rattle.std.proofs.Common.{arith, inl, inr, rules}
use Rattle.std.proofs.lemmas.Bool.{and_parts}
use Rattle.oa_frame.proofs.HexDigits.{bad_among, either_fails}
use Rattle.oa_frame.proofs.hex_lines.decode_all.Goals as goal

pub rest-init : goal.rest-init
rest-init c =
    let many = c.if-count-lt-BLOCK.false in
    record {
      within = omega (arith, many);
      whole = omega (arith, many);
      len = c.decode_block-good.ensures.len;
      good = λ h k below i. c.decode_block-good.ensures.some h (λ j under. absurd (omega (arith, under))) k (omega (arith, below)) i;
      bad = λ h. bad_among c.args.line.now _ c.args.count (omega (arith, many)) (c.decode_block-good.ensures.none h);
    }

pub rest-preserved : goal.rest-preserved
rest-preserved c =
    let left = c.rest-test.true in
    let whole = c.rest.invariant.whole in
    record {
      within = omega (arith, left, whole);
      whole = omega (arith, left, whole);
      len = search rules;
      good = λ h. c.decode_block-all.ensures.some (and_parts c.rest.good c.decode_block-all.result h).1
          (c.rest.invariant.good (and_parts c.rest.good c.decode_block-all.result h).0);
      bad = λ h. elim (either_fails c.rest.good c.decode_block-all.result h) [
        | inl before ↦ c.rest.invariant.bad before
        | inr now ↦ bad_among c.args.line.now _ c.args.count (omega (arith, left, whole)) (c.decode_block-all.ensures.none now)
      ];
    }
