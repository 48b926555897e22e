use Rattle.oa_idl.proofs.attributes.+more_property_attributes.Given as goal

abbrev pub decreases-more_property_attributes : goal.decreases-more_property_attributes
decreases-more_property_attributes l = l.room
