use Rattle.std.proofs.Common.{◌-◌}
use Rattle.oa_disk.proofs.file.add_zeros.Given as goal

abbrev pub decreases-pieces : goal.decreases-pieces
decreases-pieces l = l.to - l.at
