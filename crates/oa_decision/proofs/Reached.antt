-- What an array answers for an index list, as the answer to a request.
use Rattle.std.proofs.Common.{arith, ◌≡◌, ℤ, false, List, [], ◌∷◌, Some, Ok, refl}
use Rattle.std.proofs.lemmas.Bool.{false_from_ne_true}
use Rattle.oa_array.specs.promise.Arrays.{ArrayValue, array_element}
use Rattle.oa_array.specs.Boxes.{InBounds, IsWithin}
use Rattle.oa_array.specs.promise.Faults.{array_code}
use Rattle.oa_array.specs.promise.Within.{in_bounds}
use Rattle.oa_array.specs.declared.fault.ArrayFault.TheVariants.{BadIndex}
use Rattle.oa_array.proofs.Decided.{in_bounds_tells}
use Rattle.oa_array.proofs.Places.{IsWithin-above}
use Rattle.oa_variant.specs.declared.scalar.Scalar.{Scalar}
use Rattle.oa_model.specs.declared.var_type.VarType.{VarType}
use Rattle.oa_model.specs.declared.var_type.ValueType.TheVariants.{Array}
use Rattle.oa_variant.specs.promise.Variants.{no_indices, zero_value}
use Rattle.oa_decision.specs.promise.ArrayCells.{array_element_at, element_type_of, element_type_at}
use Rattle.oa_decision.specs.promise.Refusals.{refused}

module _ (a : ArrayValue Scalar) (index : List ℤ) where
  outside : (InBounds a.bounds index → ⊥) → in_bounds a.bounds index ≡ false
  outside none = false_from_ne_true (in_bounds a.bounds index) (λ e. none ((in_bounds_tells a.bounds index).0 e))

  pub element_is : (s : Scalar) → InBounds a.bounds index → array_element a index ≡ Some s → array_element_at index a ≡ Ok s
  element_is s within held = let test = (in_bounds_tells a.bounds index).1 within in rw (test, held) refl

  pub element_is_outside : (InBounds a.bounds index → ⊥) → array_element_at index a ≡ refused (array_code BadIndex)
  element_is_outside none = let test = outside none in rw test refl

  pub type_is : InBounds a.bounds index → element_type_at index a ≡ Ok a.elem
  type_is within = let test = (in_bounds_tells a.bounds index).1 within in rw test refl

  pub type_is_outside : (InBounds a.bounds index → ⊥) → element_type_at index a ≡ refused (array_code BadIndex)
  type_is_outside none = let test = outside none in rw test refl

-- no index list lies in a dimension without indices
no_index : (i : ℤ) → IsWithin no_indices i → ⊥
no_index i h = let w = IsWithin-above no_indices i h in absurd (omega (arith, w.1.1))

nothing_within : (index : List ℤ) → InBounds (no_indices ∷ []) index → ⊥
nothing_within [] h = absurd h
nothing_within (i ∷ rest) h = no_index i h.0

pub none_typed : (elem : VarType) (index : List ℤ) → element_type_of index (zero_value (Array elem)) ≡ refused (array_code BadIndex)
none_typed elem index = type_is_outside (record { elem = elem; bounds = no_indices ∷ []; cells = []; locks = 0 }) index (nothing_within index)
