use Rattle.std.proofs.Common.{◌≡◌, ◌+◌, length, arith}
use Rattle.oa_bstr.specs.Block.{block_text}
use Rattle.oa_bstr.proofs.Blocks.{length-row}
use Rattle.oa_bstr.proofs.block.free.Goals as goal

pub free_plain-requires : goal.free_plain-requires
free_plain-requires c =
    let long : length c.args.row ≡ length (block_text c.args.row) + 6 = length-row c.args.row c.requires in
    let count : c.count.result ≡ length (block_text c.args.row) = c.count.ensures in
    omega (arith, long, count)
