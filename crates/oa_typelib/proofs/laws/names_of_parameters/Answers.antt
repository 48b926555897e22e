use Rattle.oa_typelib.proofs.Naming.{names_well, parameters_told, parameters_found}
use Rattle.oa_typelib.proofs.laws.names_of_parameters.Goals as goal

pub returns : goal.returns
returns c =
    λ t place i is at member names n name id asked.
    (parameters_told i member names n name id asked, parameters_found i (names_well t place i is at) member names n name id asked)
