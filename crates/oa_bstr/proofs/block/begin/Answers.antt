use Rattle.std.proofs.Common.{◌≡◌, ap, ◌∙◌, ◌+◌, ◌≤◌, length, arith}
use Rattle.std.specs.Prelude.{take, min}
use Rattle.std.proofs.lemmas.List.{length-take}
use Rattle.oa_bstr.specs.Block.{block_of, block_text}
use Rattle.oa_bstr.proofs.Blocks.{length-block, length-row, begins, begin_read}
use Rattle.oa_bstr.proofs.block.begin.Goals as goal

pub first-requires : goal.first-requires
first-requires c =
    let row = c.args.row.now in let fits : c.args.len ≤ length (block_text row) + 6 = c.requires.1 in let long : length row ≡ length (block_text row) + 6 =
    length-row row c.requires.0 in
    (omega (arith, fits, long), (take c.args.len (block_of (block_text row)), begins row c.requires.0 c.args.len))

pub returns-clause-bytes : goal.returns-clause-bytes
returns-clause-bytes c = begin_read c.args.row.now c.requires.0 c.args.len c.first.result.now c.first.ensures

pub returns-clause-long : goal.returns-clause-long
returns-clause-long c =
    let row = c.args.row.now in let all = block_of (block_text row) in let fits : c.args.len ≤ length (block_text row) + 6 = c.requires.1 in
    let read : length c.first.result.now ≡ min c.args.len (length all) = ap length (begin_read row c.requires.0 c.args.len c.first.result.now c.first.ensures)
    ∙ length-take c.args.len all in
    omega (arith, fits, read, length-block (block_text row))
