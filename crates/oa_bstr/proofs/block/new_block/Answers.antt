use Rattle.std.proofs.Common.{◌≡◌, ap, ◌∙◌, ◌++◌, length}
use Rattle.std.specs.Prelude.{map, Some}
use Rattle.std.specs.Int.{w32, to_le_bytes}
use Rattle.oa_bstr.specs.Block.{block_of}
use Rattle.oa_bstr.proofs.Blocks.{zeros, is_block, joined}
use Rattle.oa_bstr.proofs.block.new_block.Goals as goal

pub returns : goal.returns
returns c =
    let bytes = c.args.bytes.now in
    let counted : c.extend_from_slice.new.self.items ≡ to_le_bytes w32 (length bytes) = c.extend_from_slice.ensures.1
    ∙ ap (λ l. l ++ c.to_le_bytes.result) c.in_ok-part.ensures.1 ∙ c.to_le_bytes.ensures in
    let all : c.extend_from_slice-3.new.self.items ≡ block_of bytes = c.extend_from_slice-3.ensures.1
    ∙ ap (λ l. l ++ zeros) (c.extend_from_slice-2.ensures.1 ∙ ap (λ l. l ++ bytes) counted) ∙ joined bytes in
    is_block c.full.result bytes (c.full.ensures ∙ ap (map Some) all) c.requires
