use Rattle.oa_frame.proofs.HexDigits.{joined_at}
use Rattle.oa_frame.proofs.hex_lines.joined.Goals as goal

pub returns : goal.returns
returns c = joined_at c.args.values.now c.told-values
