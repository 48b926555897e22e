-- What may be a value has an image.
use Rattle.std.proofs.Common.{◌≡◌, ℕ, ◌≤◌, inl, inr, List, [], ◌∷◌, length, Option, Some, None, refl, subst, arith}
use Rattle.std.specs.Prelude.{All}
use Rattle.std.specs.List.{AllByRecursion}
use Rattle.std.proofs.lemmas.List.Elements.{All-head, All-tail}
use Rattle.oa_model.specs.promise.Limits.{max_text_bytes}
use Rattle.oa_model.specs.declared.bound.Bound.{Bound}
use Rattle.oa_model.specs.declared.var_type.VarType.{VarType}
use Rattle.oa_model.specs.declared.var_type.VarType.TheVariants as types
use Rattle.oa_array.specs.promise.Arrays.{ArrayValue, IsArray, with_locks}
use Rattle.oa_bstr.specs.promise.Text.{bytes_of}
use Rattle.oa_variant.specs.promise.Scalars.{FitsType}
use Rattle.oa_variant.specs.Scalars.{IsScalar}
use Rattle.oa_variant.specs.Variants.{IsBound, IsVariant}
use Rattle.oa_variant.specs.promise.Variants.{unlocked}
use Rattle.oa_variant.specs.declared.scalar.Scalar.{Scalar}
use Rattle.oa_variant.specs.declared.scalar.Scalar.TheVariants as scalars
use Rattle.oa_variant.specs.declared.variant.Variant.{Variant}
use Rattle.oa_variant.specs.declared.variant.Variant.TheVariants as variants
use Rattle.oa_formats.specs.promise.Formats.{raw, next_by, made_where, coded, counted, only, times, nothing, case}
use Rattle.oa_formats.specs.promise.Formats.{tagged}
use Rattle.oa_formats.specs.promise.Numbers.{u8, u16, u32, u64, i8, i16, i32, i64, truth_format}
use Rattle.oa_formats.specs.promise.Values.{text_header, text_of_size, text, decimal_format, of_type, vt, scalar_format}
use Rattle.oa_formats.specs.promise.Arrays.{bound_format, bounds_of, cell_of, array_format}
use Rattle.oa_formats.specs.Arrays.{shape_here}
use Rattle.oa_formats.specs.promise.Variants.{kind, content, value}

pub text_is : (t : Option (List ℕ)) → length (bytes_of t) ≤ max_text_bytes → text.Is t
unfolding text text_header text_of_size tagged coded case raw nothing
text_is None h = (tt, (refl, tt))
text_is (Some x) h = (omega (arith, h), (refl, refl))

pub scalar_is : (s : Scalar) → IsScalar s → scalar_format.Is s
unfolding scalar_format vt of_type tagged coded case nothing u8 u16 u32 u64 i8 i16 i32 i64 made_where truth_format decimal_format
scalar_is scalars.Empty h = (tt, (refl, tt))
scalar_is scalars.Null h = (tt, (refl, tt))
scalar_is (scalars.Bstr t) h = (tt, (refl, text_is t h))
scalar_is s h = (tt, (refl, h))

bound_is : (b : Bound) → IsBound b → bound_format.Is b
unfolding IsBound bound_format next_by made_where u32 i32
bound_is b h = h

-- a cell of another type than VARIANT
own_content : (t : VarType) (s : Scalar) → (t ≡ types.Variant → ⊥) → FitsType s t → IsScalar s → (of_type t).Is s
unfolding scalar_format tagged
own_content t s other (inl e) h = absurd (other e)
own_content t s other (inr e) h = subst (λ (k : VarType). (of_type k).Is s) e (scalar_is s h).1

cell_is : (t : VarType) (s : Scalar) → FitsType s t → IsScalar s → (cell_of t).Is s
unfolding cell_of
cell_is types.Variant s fits h = scalar_is s h
cell_is t s fits h = own_content t s (λ e. absurd cc) fits h

each_cell : (t : VarType) (cells : List Scalar) → All (λ s. FitsType s t) cells → All IsScalar cells → AllByRecursion (cell_of t).Is cells
each_cell t [] fits h = tt
each_cell t (s ∷ cells) fits h = (
  cell_is t s (All-head (λ s. FitsType s t) s cells fits) (All-head IsScalar s cells h),
  each_cell t cells (All-tail (λ s. FitsType s t) s cells fits)
      (All-tail IsScalar s cells h),
)

each_bound : (bounds : List Bound) → All IsBound bounds → AllByRecursion bound_format.Is bounds
each_bound [] h = tt
each_bound (b ∷ bounds) h = (bound_is b (All-head IsBound b bounds h), each_bound bounds (All-tail IsBound b bounds h))

array_is : (a : ArrayValue Scalar) → IsArray FitsType a → All IsScalar a.cells → All IsBound a.bounds
    → (array_format a.elem).Is (with_locks a 0)
unfolding array_format bounds_of only counted times coded made_where u16
array_is a is cells bounds = (
  refl,
  refl,
  ((omega (arith, is.shape.few), each_bound a.bounds bounds), shape_here a.elem a.bounds is.shape),
  (is.whole, each_cell a.elem a.cells is.typed cells),
)

pub value_is : (v : Variant) → IsVariant v → value.Is (unlocked v)
unfolding value kind content tagged coded case scalar_format vt
value_is (variants.One s) h = (tt, (refl, (scalar_is s h).1))
value_is (variants.Array a) h = (tt, (refl, array_is a h.0 h.1 h.2))

-- an image holds no locks
pub same_unlocked : (v : Variant) → value.image (unlocked v) ≡ value.image v
unfolding value content tagged case array_format made_where
same_unlocked (variants.One s) = refl
same_unlocked (variants.Array a) = refl
