-- The parts of the image of an array make it.
use Rattle.std.proofs.Common.{◌≡◌, ⊎_elim, List, [], ◌∷◌, ◌++◌, refl, sym, ap, append_assoc}
use Rattle.std.specs.List.{AllByRecursion, flat_map}
use Rattle.oa_model.specs.declared.var_type.VarType.{VarType}
use Rattle.oa_model.specs.declared.var_type.VarType.TheVariants as types
use Rattle.oa_model.specs.declared.var_type.ValueType.TheVariants as kinds
use Rattle.oa_array.specs.promise.Arrays.{ArrayValue}
use Rattle.oa_variant.specs.promise.Scalars.{type_of, FitsType}
use Rattle.oa_variant.specs.declared.scalar.Scalar.{Scalar}
use Rattle.oa_variant.specs.declared.variant.Variant.TheVariants as variants
use Rattle.oa_formats.specs.promise.Formats.{next_by, made_where, times, case, tagged}
use Rattle.oa_formats.specs.promise.Arrays.{array_format, bounds_of, cell_of}
use Rattle.oa_formats.specs.Elements.{array_head, element_image}
use Rattle.oa_formats.specs.promise.Values.{of_type}
use Rattle.oa_formats.specs.promise.Variants.{content, kind, value}

by_type : (t : VarType) (s : Scalar) → (t ≡ types.Variant → ⊥) → FitsType s t → (of_type (type_of s)).image s ≡ (of_type t).image s
by_type t s other fits = ⊎_elim (λ is. absurd (other is)) (λ same. ap (λ (k : VarType). (of_type k).image s) same) fits

pub element_same : (t : VarType) (s : Scalar) → FitsType s t → element_image t s ≡ (cell_of t).image s
unfolding element_image cell_of
element_same types.Variant s fits = refl
element_same t s fits = by_type t s (λ is. absurd cc) fits

elements_same : (t : VarType) (cells : List Scalar) → AllByRecursion (λ s. FitsType s t) cells
    → flat_map (element_image t) cells ≡ flat_map (cell_of t).image cells
elements_same t [] all = refl
elements_same t (s ∷ cells) all = rw (element_same t s all.0, elements_same t cells all.1) refl

-- the bytes of an array, part by part
pub array_parts : (a : ArrayValue Scalar) → AllByRecursion (λ s. FitsType s a.elem) a.cells
    → value.image (variants.Array a) ≡ array_head a ++ flat_map (element_image a.elem) a.cells
unfolding array_head value tagged content case array_format made_where next_by times
array_parts a all = rw (elements_same a.elem a.cells all) (sym (append_assoc (kind.image (kinds.Array a.elem)) ((bounds_of a.elem).image a.bounds)
    (flat_map (cell_of a.elem).image a.cells)))
