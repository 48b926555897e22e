use Rattle.oa_idl.proofs.Answered.{one_tree}
use Rattle.oa_idl.proofs.laws.one_tree.Goals as goal

pub returns : goal.returns
returns c = one_tree
