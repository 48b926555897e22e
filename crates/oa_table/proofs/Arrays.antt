-- What an array answers, as the value of a cell.
use Rattle.std.proofs.Common.{◌≡◌, ◌↔◌, ℤ, Bool, true, false, IsTrue, List, Ok, refl, sym, ◌∙◌}
use Rattle.std.proofs.lemmas.Bool.{false_from_ne_true}
use Rattle.oa_array.specs.promise.Arrays.{ArrayValue, with_cell}
use Rattle.oa_array.specs.Boxes.{InBounds}
use Rattle.oa_array.specs.Faults.{RefusesPut}
use Rattle.oa_array.specs.declared.fault.ArrayFault.{ArrayFault}
use Rattle.oa_array.specs.declared.fault.ArrayFault.TheVariants as arrays
use Rattle.oa_variant.specs.promise.Scalars.{FitsType, fits_type}
use Rattle.oa_variant.specs.declared.scalar.Scalar.{Scalar}
use Rattle.oa_variant.specs.declared.variant.Variant.TheVariants as variants
use Rattle.oa_table.specs.declared.fault.TableFault.TheVariants.{Array}
use Rattle.oa_table.specs.promise.Elements.{with_element_put}
use Rattle.oa_array.specs.promise.Within.{in_bounds}
use Rattle.oa_table.specs.Outcomes.{Because}
use Rattle.oa_array.proofs.Decided.{in_bounds_tells}

module _ (a : ArrayValue Scalar) (index : List ℤ) (element : Scalar) (b : Bool) (tests : b ≡ fits_type element a.elem)
    (tells : IsTrue b ↔ FitsType element a.elem) where
  pub element_is : InBounds a.bounds index → FitsType element a.elem → with_element_put index element (variants.Array a) ≡ Ok
      (variants.Array (with_cell a index element))
  element_is within fits =
      let one = (in_bounds_tells a.bounds index).1 within in
      let two = sym tests ∙ tells.1 fits in
      rw (one, two) refl

  pub element_refused : (fault : ArrayFault) → RefusesPut FitsType a index element fault → Because (with_element_put index element (variants.Array a))
      (Array fault)
  element_refused arrays.BadIndex outside =
      let one = not_from_false (in_bounds_tells a.bounds index).0 in
      rw one refl
    where
      not_from_false : (in_bounds a.bounds index ≡ true → InBounds a.bounds index) → in_bounds a.bounds index ≡ false
      not_from_false f = false_from_ne_true (in_bounds a.bounds index) (λ e. outside (f e))
  element_refused arrays.TypeMismatch h =
      let one = (in_bounds_tells a.bounds index).1 h.0 in
      let two : fits_type element a.elem ≡ false = false_from_ne_true (fits_type element a.elem) (λ e. h.1 (tells.0 (tests ∙ e))) in
      rw (one, two) refl
  element_refused arrays.IsLocked h = absurd h
  element_refused arrays.InvalidArgument h = absurd h
  element_refused arrays.Unexpected h = absurd h
  element_refused arrays.Memory h = absurd h
