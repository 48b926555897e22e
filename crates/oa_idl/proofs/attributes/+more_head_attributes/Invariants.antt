use Rattle.oa_idl.proofs.attributes.+more_head_attributes.Given as goal

abbrev pub decreases-more_head_attributes : goal.decreases-more_head_attributes
decreases-more_head_attributes l = l.room
