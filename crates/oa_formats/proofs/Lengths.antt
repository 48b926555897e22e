-- Images are as long as they are counted.
use Rattle.std.proofs.Common.{◌≡◌, ℕ, ◌+◌, ◌*◌, List, [], ◌∷◌, length, Option, Some, None, refl, arith}
use Rattle.std.specs.List.{flat_map, sum_by}
use Rattle.std.proofs.lemmas.List.{length-append}
use Rattle.std.proofs.lemmas.List.Sums.{sum_by-cons}
use Rattle.oa_model.specs.declared.bound.Bound.{Bound}
use Rattle.oa_model.specs.declared.var_type.VarType.{VarType}
use Rattle.oa_model.specs.declared.var_type.VarType.TheVariants as types
use Rattle.oa_bstr.specs.promise.Text.{bytes_of}
use Rattle.oa_variant.specs.promise.Scalars.{type_of, text_of}
use Rattle.oa_variant.specs.declared.scalar.Scalar.{Scalar}
use Rattle.oa_variant.specs.declared.variant.Variant.{Variant}
use Rattle.oa_variant.specs.declared.variant.Variant.TheVariants as variants
use Rattle.oa_formats.specs.promise.Arrays.{array_format, bound_format, bounds_of, cell_of}
use Rattle.oa_formats.specs.promise.Formats.{raw, nothing, never, next_by, made_where, coded, case, tagged, counted}
use Rattle.oa_formats.specs.promise.Formats.{only, times}
use Rattle.oa_formats.specs.promise.Lengths.{content_size, element_size, scalar_size, value_size}
use Rattle.oa_formats.specs.promise.Numbers.{u8, u16, u32, u64, i8, i16, i32, i64, truth_format}
use Rattle.oa_formats.specs.promise.Values.{decimal_format, of_type, scalar_format, text, text_header, text_of_size, vt}
use Rattle.oa_formats.specs.promise.Variants.{content, kind, value}

-- images one behind the other
pub all_sized : {X : Type 0} (image : X → List ℕ) (size : X → ℕ) → ((x : X) → length (image x) ≡ size x) → (xs : List X)
    → length (flat_map image xs) ≡ sum_by size xs
all_sized image size each [] = refl
all_sized image size each (x ∷ xs) = omega (arith, length-append (image x) (flat_map image xs), each x, all_sized image size each xs, sum_by-cons size x xs)

text_sized : (t : Option (List ℕ)) → length (text.image t) ≡ 4 + length (bytes_of t)
unfolding text tagged text_header text_of_size coded case raw nothing u32 made_where
text_sized None = refl
text_sized (Some bytes) = omega arith

content_sized : (t : VarType) (s : Scalar) → length ((of_type t).image s) ≡ content_size t s
unfolding of_type content_size case nothing never raw made_where coded next_by decimal_format truth_format u8 u16 u32 u64 i8 i16 i32 i64
content_sized types.Bstr s = text_sized (text_of s)
content_sized t s = refl

pub scalar_sized : (s : Scalar) → length (scalar_format.image s) ≡ scalar_size s
unfolding scalar_format scalar_size tagged vt coded u16 made_where
scalar_sized s = omega (arith, content_sized (type_of s) s)

element_sized : (t : VarType) (s : Scalar) → length ((cell_of t).image s) ≡ element_size t s
unfolding cell_of element_size
element_sized types.Variant s = scalar_sized s
element_sized t s = content_sized t s

bounds_sized : (bounds : List Bound) → length (flat_map bound_format.image bounds) ≡ 8 * length bounds
unfolding bound_format next_by made_where u32 i32 raw
bounds_sized [] = refl
bounds_sized (b ∷ bounds) = omega (arith, length-append (bound_format.image b) (flat_map bound_format.image bounds), bounds_sized bounds)

pub value_sized : (v : Variant) → length (value.image v) ≡ value_size v
unfolding value value_size tagged kind coded u16 made_where content case scalar_size array_format bounds_of only counted times next_by raw
value_sized (variants.One s) = omega (arith, content_sized (type_of s) s)
value_sized (variants.Array a) =
    omega (
      arith,
      length-append (flat_map bound_format.image a.bounds) (flat_map (cell_of a.elem).image a.cells),
      bounds_sized a.bounds,
      all_sized (cell_of a.elem).image (element_size a.elem) (element_sized a.elem) a.cells,
    )
