use Rattle.std.proofs.Common.{◌≡◌, ap, ◌∙◌, ◌+◌, ◌-◌, length, arith}
use Rattle.std.specs.Prelude.{take, drop}
use Rattle.std.proofs.lemmas.List.{take_all}
use Rattle.oa_bstr.specs.Block.{block_text}
use Rattle.oa_bstr.proofs.Blocks.{text_bytes}
use Rattle.oa_bstr.proofs.block.text.Goals as goal

pub returns-clause-bytes : goal.returns-clause-bytes
returns-clause-bytes c =
    let text = block_text c.args.row.now in let all = c.begin-head_and_text.result.now in let count : c.count.result ≡ length text = c.count.ensures in
    let long : length all ≡ 4 + c.count.result = c.begin-head_and_text.ensures.long in
    let behind : drop 4 all ≡ text = ap (drop 4) c.begin-head_and_text.ensures.bytes ∙ text_bytes text (4 + c.count.result) (ap (λ n. 4 + n) count) in
    ap (take (length all - 4)) behind ∙ take_all (length all - 4) text (omega (arith, count, long))
