use Rattle.oa_typelib.proofs.Naming.{names_well, member_told, member_found}
use Rattle.oa_typelib.proofs.laws.names_of_members.Goals as goal

pub returns : goal.returns
returns c = λ t place i is at name names id. (member_told i name names id, member_found i (names_well t place i is at) name names id)
