-- Definitions for contracts and proofs, beside promise/Arrays.
use Rattle.std.specs.Prelude.{List, replicate}
use Rattle.oa_model.specs.declared.bound.Bound.{Bound}
use Rattle.oa_model.specs.declared.var_type.VarType.{VarType}
use Rattle.oa_array.specs.promise.Boxes.{box_size}
use Rattle.oa_array.specs.promise.Arrays.{ArrayValue}

module _ {X : Type 0} where
  -- The array with the same element everywhere, without locks.
  abbrev pub all_cells : VarType → List Bound → X → ArrayValue X
  all_cells elem bounds cell =
      record { elem = elem; bounds = bounds; cells = replicate (box_size bounds) cell; locks = 0 }
