use Rattle.std.proofs.Common.{ap, ◌∙◌}
use Rattle.std.specs.Int.{w32, from_le_bytes}
use Rattle.oa_bstr.specs.Block.{block_text}
use Rattle.oa_bstr.proofs.Blocks.{count_bytes, count_read, four}
use Rattle.oa_bstr.proofs.block.count.Goals as goal

pub returns : goal.returns
returns c =
    let text = block_text c.args.row.now in let head = c.begin-head.result.now in
    c.from_le_bytes.ensures ∙ ap (from_le_bytes w32) (four head c.begin-head.ensures.long ∙ c.begin-head.ensures.bytes ∙ count_bytes text)
    ∙ count_read text c.requires.short
