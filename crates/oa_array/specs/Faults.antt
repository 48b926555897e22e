-- Definitions for contracts and proofs, beside promise/Faults.
use Rattle.std.specs.Prelude.{◌≡◌, ◌<◌, ◌≤◌, List, ℤ}
use Rattle.oa_model.specs.promise.Limits.{max_cells}
use Rattle.oa_model.specs.declared.bound.Bound.{Bound}
use Rattle.oa_model.specs.declared.var_type.VarType.{VarType}
use Rattle.oa_array.specs.promise.Arrays.{ArrayValue, IsArrayShape, with_first}
use Rattle.oa_array.specs.Boxes.{InBounds}
use Rattle.oa_array.specs.promise.Boxes.{box_size}
use Rattle.oa_array.specs.declared.fault.ArrayFault.{ArrayFault}
use Rattle.oa_array.specs.declared.fault.ArrayFault.TheVariants.{BadIndex, TypeMismatch, IsLocked, InvalidArgument}
use Rattle.oa_array.specs.declared.fault.ArrayFault.TheVariants.{Memory}

-- The refusals of `create`: there is no such array, or no memory for it.
abbrev pub RefusesCreate : VarType → List Bound → ArrayFault → Type 0
RefusesCreate elem bounds InvalidArgument = IsArrayShape elem bounds → ⊥
RefusesCreate elem bounds Memory = IsArrayShape elem bounds
RefusesCreate elem bounds _ = ⊥

module _ {X : Type 0} where
  -- The refusals of `put_element`: first the index list is checked, then the value.
  abbrev pub RefusesPut : (X → VarType → Type 0) → ArrayValue X → List ℤ → X → ArrayFault → Type 0
  RefusesPut fits a index value BadIndex = InBounds a.bounds index → ⊥
  RefusesPut fits a index value TypeMismatch = InBounds a.bounds index × (fits value a.elem → ⊥)
  RefusesPut fits a index value _ = ⊥

  -- The refusals of `redim`: first the locks are checked, then the size, and then memory is allocated.
  abbrev pub RefusesRedim : ArrayValue X → Bound → ArrayFault → Type 0
  RefusesRedim a bound IsLocked = 0 < a.locks
  RefusesRedim a bound InvalidArgument = (a.locks ≡ 0) × (max_cells < box_size (with_first bound a.bounds))
  RefusesRedim a bound Memory = (a.locks ≡ 0) × (box_size (with_first bound a.bounds) ≤ max_cells)
  RefusesRedim a bound _ = ⊥
