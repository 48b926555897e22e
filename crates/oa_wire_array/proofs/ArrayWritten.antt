-- The written bytes of an array are of its form.
use Rattle.std.proofs.Common.{◌≡◌, ℕ, ◌*◌, ◌^◌, ◌<◌, true, List, [], ◌∷◌, map, length, Some, None, All, is_some, refl, arith}
use Rattle.std.specs.Option.{unwrap_or}
use Rattle.std.specs.List.{AllByRecursion}
use Rattle.std.proofs.Common.{inl, inr}
use Rattle.std.proofs.lemmas.List.Elements.{All-head, All-tail}
use Rattle.oa_ndr.specs.promise.Forms.{referent, each, pairwise, made}
use Rattle.oa_ndr.specs.promise.Writing.{put_all, put_unit}
use Rattle.oa_ndr.proofs.WritingLaws.{Writes, then_writes, with_writes, unit_writes, ignored_writes, nothing_writes, given_writes, referent_writes}
use Rattle.oa_ndr.proofs.WritingLaws.{each_writes}
use Rattle.oa_model.specs.promise.Types.{vt_of, sf_type_of, element_size_of}
use Rattle.oa_model.specs.declared.bound.Bound.{Bound}
use Rattle.oa_model.specs.declared.var_type.VarType.{VarType}
use Rattle.oa_model.specs.declared.var_type.VarType.TheVariants as types
use Rattle.oa_array.specs.promise.Arrays.{ArrayValue, IsArray, with_locks}
use Rattle.oa_variant.specs.promise.Scalars.{type_of, FitsType}
use Rattle.oa_variant.specs.Scalars.{IsScalar}
use Rattle.oa_variant.specs.Variants.{IsBound}
use Rattle.oa_variant.specs.declared.scalar.Scalar.{Scalar}
use Rattle.oa_variant.specs.declared.scalar.Scalar.TheVariants as scalars
use Rattle.oa_wire_array.specs.promise.Arrays.{bound, cell_pointee, pointed, elements, IsUnlockedArray, dimensions}
use Rattle.oa_wire_array.specs.promise.Arrays.{array}
use Rattle.oa_wire_array.specs.promise.ArrayCanon.{put_bound, has_pointee, put_pointee, put_cell_referent, put_pointed}
use Rattle.oa_wire_array.specs.promise.ArrayCanon.{put_elements, features_of, put_array}
use Rattle.oa_wire_array.proofs.Written.{signed32_writes, blob_writes, arm_writes, scalar_writes}

bound_writes : (b : Bound) → IsBound b → Writes (bound b) (put_bound b)
unfolding IsBound
bound_writes b h = then_writes (unit_writes 4 b.count h.0) (signed32_writes b.lower h.1)

made_writes : {A C : Type 0} {make : A → C} {F : A → ℕ → List ℕ → Type 0} {c : C} {put : List ℕ → List ℕ} (value : A) → make value ≡ c → Writes (F value) put
    → Writes (made make F c) put
made_writes value e w = record {
  adds = λ out. let one = w.adds out in record { text = one.text; parts = one.parts; form = record { value = value; is = e; form = one.form } };
}

referents_write : (t : VarType) (cells : List Scalar) → Writes (each referent (map (has_pointee t) cells)) (put_all (put_cell_referent t) cells)
referents_write t [] = nothing_writes
referents_write t (v ∷ cells) = then_writes (referent_writes (has_pointee t v)) (referents_write t cells)

text_writes : (v : Scalar) → type_of v ≡ types.Bstr → IsScalar v → Writes (cell_pointee types.Bstr (has_pointee types.Bstr v) v) (put_pointee types.Bstr v)
text_writes (scalars.Bstr None) e h = made_writes None refl (given_writes refl)
text_writes (scalars.Bstr (Some text)) e h = made_writes (Some text) refl (blob_writes (Some text) h)
text_writes v e h = absurd cc

-- An element of its type that satisfies the invariant of scalars.
abbrev IsCell : VarType → Scalar → Type 0
IsCell t v = FitsType v t × IsScalar v

text_cell_writes : (v : Scalar) → IsCell types.Bstr v → Writes (cell_pointee types.Bstr (has_pointee types.Bstr v) v) (put_pointee types.Bstr v)
text_cell_writes v (inl e, h) = absurd cc
text_cell_writes v (inr e, h) = text_writes v e h

pointees_write : {P : Scalar → Type 0} (t : VarType) → ((v : Scalar) → P v → Writes (cell_pointee t (has_pointee t v) v) (put_pointee t v))
    → (cells : List Scalar) → AllByRecursion P cells
    → Writes (pairwise (cell_pointee t) (map (has_pointee t) cells) cells) (put_all (put_pointee t) cells)
pointees_write t w [] all = nothing_writes
pointees_write t w (v ∷ cells) all = then_writes (w v all.0) (pointees_write t w cells all.1)

pointed_writes : {P : Scalar → Type 0} (t : VarType) → ((v : Scalar) → P v → Writes (cell_pointee t (has_pointee t v) v) (put_pointee t v))
    → (cells : List Scalar) → AllByRecursion P cells
    → Writes (pointed t cells) (put_pointed t cells)
pointed_writes t w cells all = with_writes (map (has_pointee t) cells) (then_writes (referents_write t cells) (pointees_write t w cells all))

elements_writes : (t : VarType) (cells : List Scalar) → AllByRecursion (IsCell t) cells → Writes (elements t cells) (put_elements t cells)
elements_writes types.Bstr cells all = pointed_writes types.Bstr text_cell_writes cells all
elements_writes types.Variant cells all = pointed_writes types.Variant (λ v h. scalar_writes v h.1) cells all
elements_writes t cells all = each_writes (λ v h. arm_writes v h.1) cells all

-- The invariant of arrays, for the elements.
all_cells : (t : VarType) (cells : List Scalar) → All (λ v. FitsType v t) cells → All IsScalar cells → AllByRecursion (IsCell t) cells
all_cells t [] f h = tt
all_cells t (v ∷ cells) f h = (
  (All-head (λ x. FitsType x t) v cells f, All-head IsScalar v cells h),
  all_cells t cells (All-tail (λ x. FitsType x t) v cells f) (All-tail IsScalar v cells h),
)

all_bounds : (bounds : List Bound) → All IsBound bounds → AllByRecursion IsBound bounds
all_bounds [] h = tt
all_bounds (b ∷ bounds) h = (All-head IsBound b bounds h, all_bounds bounds (All-tail IsBound b bounds h))

dimensions_writes : (a : ArrayValue Scalar) → IsArray FitsType a → All IsScalar a.cells → All IsBound a.bounds
    → Writes (dimensions a) (λ out. put_elements a.elem a.cells (put_unit 4 (length a.cells) (put_all put_bound a.bounds out)))
dimensions_writes a is cells bounds =
    let few : length a.cells < 256 ^ 4 = omega (arith, is.whole, is.shape.small) in
    then_writes (each_writes bound_writes a.bounds (all_bounds a.bounds bounds))
    (then_writes (unit_writes 4 (length a.cells) few) (elements_writes a.elem a.cells (all_cells a.elem a.cells is.typed cells)))

-- the sfType that is written
sf_is : (t : VarType) → is_some (sf_type_of t) ≡ true → (sf_type_of t ≡ Some (unwrap_or (sf_type_of t) 0)) × (unwrap_or (sf_type_of t) 0 < 256 ^ 4)
sf_is types.Empty h = absurd cc
sf_is types.Null h = absurd cc
sf_is types.Error h = absurd cc
sf_is types.Decimal h = absurd cc
sf_is t h = (refl, omega arith)

pub array_writes : (a : ArrayValue Scalar) → IsArray FitsType a → All IsScalar a.cells → All IsBound a.bounds → Writes (array (with_locks a 0)) (put_array a)
unfolding put_array
array_writes a is cells bounds =
    let dims : length a.bounds < 256 ^ 2 = omega (arith, is.shape.few) in
    let few : length a.cells < 256 ^ 4 = omega (arith, is.whole, is.shape.small) in
    let sf = sf_is a.elem is.shape.typed in
    let plain : IsUnlockedArray (with_locks a 0) = (record { shape = is.shape; whole = is.whole; typed = is.typed }, refl) in
    then_writes (given_writes plain) (then_writes (referent_writes true)
    (then_writes (unit_writes 4 (length a.bounds) (omega (arith, dims))) (then_writes (unit_writes 2 (length a.bounds) dims)
    (then_writes (ignored_writes 2 (features_of a.elem))
    (then_writes (ignored_writes 4 (unwrap_or (element_size_of a.elem) 0)) (then_writes (ignored_writes 4 (vt_of a.elem * 65536))
    (with_writes (unwrap_or (sf_type_of a.elem) 0) (then_writes (unit_writes 4 (unwrap_or (sf_type_of a.elem) 0) sf.1)
    (then_writes (given_writes sf.0) (then_writes (unit_writes 4 (length a.cells) few)
    (then_writes (ignored_writes 4 131072) (dimensions_writes a is cells bounds))))))))))))
