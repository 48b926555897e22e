-- The parts of an array other than its elements, as they are in memory.
use Rattle.std.specs.Prelude.{List, [], ◌∷◌}
use Rattle.oa_model.specs.declared.bound.Bound.{Bound}
use Rattle.oa_array.specs.declared.head.BoundList.{BoundList}
use Rattle.oa_array.specs.declared.head.BoundList.TheVariants.{One, Many}

-- The bounds in a list of them.
abbrev pub bounds_in : BoundList → List Bound
bounds_in (One bound) = bound ∷ []
bounds_in (Many all) = all.value.items
