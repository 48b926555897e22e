use Rattle.std.proofs.Common.{arith}
use Rattle.oa_frame.proofs.HexDigits.{low_digit, high_digit}
use Rattle.oa_frame.proofs.writing.digit.Goals as goal

pub returns-then-value-lt10 : goal.returns-then-value-lt10
returns-then-value-lt10 c = low_digit c.args.value (omega arith)

pub returns-else-value-lt10 : goal.returns-else-value-lt10
returns-else-value-lt10 c = high_digit c.args.value (omega arith) c.requires
