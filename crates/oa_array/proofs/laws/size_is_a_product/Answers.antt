use Rattle.oa_array.proofs.Places.{box_size-nil, box_size-cons}
use Rattle.oa_array.proofs.laws.size_is_a_product.Goals as goal

pub returns : goal.returns
returns c = record { none = box_size-nil; more = box_size-cons }
