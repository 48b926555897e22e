use Rattle.std.proofs.Common.{length}
use Rattle.oa_typelib.proofs.names.+is_same_name.Given as goal

abbrev pub decreases-is_same_name : goal.decreases-is_same_name
decreases-is_same_name l = length l.name.now
