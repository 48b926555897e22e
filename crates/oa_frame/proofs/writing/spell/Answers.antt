use Rattle.std.proofs.Common.{◌*◌, length, arith}
use Rattle.oa_frame.proofs.HexDigits.{hex_end}
use Rattle.oa_frame.proofs.writing.spell.Goals as goal

pub returns-clause-line : goal.returns-clause-line
returns-clause-line c =
    let few = c.requires in
    let size = c.encode.ensures.len in
    let told = c.told-line in
    hex_end c.args.fields.now c.encode.new.digits (2 * length c.args.fields.now) (omega (arith, few, size, told)) c.encode.ensures.digits
