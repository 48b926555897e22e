use Rattle.oa_idl.proofs.parameters.+more_parameter_attributes.Given as goal

abbrev pub decreases-more_parameter_attributes : goal.decreases-more_parameter_attributes
decreases-more_parameter_attributes l = l.room
