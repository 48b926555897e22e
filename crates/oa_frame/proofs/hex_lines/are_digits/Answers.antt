use Rattle.oa_frame.proofs.HexDigits.{are_small, is_large}
use Rattle.oa_frame.proofs.hex_lines.are_digits.Goals as goal

pub returns-clause-some : goal.returns-clause-some
returns-clause-some c = are_small c.args.values.now c.told-values

pub returns-clause-none : goal.returns-clause-none
returns-clause-none c = is_large c.args.values.now c.told-values
