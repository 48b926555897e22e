use Rattle.std.proofs.Common.{◌<◌, arith, length, refl, rules, subst, sym}
use Rattle.std.proofs.lemmas.Bool.{false≢true}
use Rattle.oa_frame.specs.Digits.{AreDecoded, HasBadPair}
use Rattle.oa_frame.proofs.HexDigits.{few_bad, few_more}
use Rattle.oa_frame.proofs.hex_lines.decode_few.Goals as goal

pub pairs-init : goal.pairs-init
pairs-init c = record { len = refl; good = λ _ k below i. absurd (omega (arith, below)); bad = λ h. absurd (false≢true (sym h)) }

pub pairs-preserved : goal.pairs-preserved
pairs-preserved c =
    let room : c.pairs.i < length c.pairs.buffer = let below = c.pairs-test.true in let same = c.pairs.invariant.len in let enough = c.requires.room in
    omega (arith, below, same, enough) in
    record {
      len = search rules;
      good = few_more c.args.line.now c.pairs.buffer c.pairs.i c.pair-byte.result.0 c.pairs.good c.pair-byte.result.1 room c.pair-byte.ensures.some
          c.pairs.invariant.good;
      bad = few_bad c.args.line.now c.pairs.i c.pairs.good c.pair-byte.result.1 c.pair-byte.ensures.none c.pairs.invariant.bad;
    }

pub returns-clause-some : goal.returns-clause-some
returns-clause-some c = λ h. subst (AreDecoded c.args.line.now c.pairs.buffer)
    (let over = c.pairs-test.false in let end = c.pairs.auto.i-end in omega (arith, over, end)) (c.pairs.invariant.good h)

pub returns-clause-none : goal.returns-clause-none
returns-clause-none c = λ h. subst (HasBadPair c.args.line.now) (let over = c.pairs-test.false in let end = c.pairs.auto.i-end in omega (arith, over, end))
    (c.pairs.invariant.bad h)
