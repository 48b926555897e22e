-- An array of one dimension without indices has no cells.
use Rattle.std.proofs.Common.{◌≡◌, refl, replicate, [], ◌∷◌}
use Rattle.oa_array.specs.promise.Boxes.{index_lists, box_size}
use Rattle.oa_variant.specs.promise.Variants.{no_indices}

pub no_cells : {X : Type 0} (x : X) → replicate (box_size (no_indices ∷ [])) x ≡ []
unfolding index_lists box_size
no_cells x = refl
