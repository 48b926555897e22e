use Rattle.oa_idl.proofs.methods.+more_method_attributes.Given as goal

abbrev pub decreases-more_method_attributes : goal.decreases-more_method_attributes
decreases-more_method_attributes l = l.room
