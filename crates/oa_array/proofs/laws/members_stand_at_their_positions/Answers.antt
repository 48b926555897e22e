use Rattle.std.proofs.Common.{ap, ◌∙◌, sym, slice_get}
use Rattle.oa_array.specs.promise.Boxes.{index_lists}
use Rattle.oa_array.proofs.Places.{member_at, member_found}
use Rattle.oa_array.proofs.laws.members_stand_at_their_positions.Goals as goal

pub returns : goal.returns
returns c = λ bounds index place. (member_found bounds index place, λ w. ap (slice_get (index_lists bounds)) (sym w.1) ∙ member_at bounds index w.0)
