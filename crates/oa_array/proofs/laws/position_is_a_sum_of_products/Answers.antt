use Rattle.oa_array.proofs.Places.{position_of-nil, position_of-cons}
use Rattle.oa_array.proofs.laws.position_is_a_sum_of_products.Goals as goal

pub returns : goal.returns
returns c = record { none = position_of-nil; more = position_of-cons }
