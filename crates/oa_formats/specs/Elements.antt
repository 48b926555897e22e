-- The image of an array in parts: the bytes before its cells, and each cell.
use Rattle.std.specs.Prelude.{ℕ, List, ◌++◌}
use Rattle.oa_model.specs.declared.var_type.VarType.{VarType}
use Rattle.oa_model.specs.declared.var_type.VarType.TheVariants as types
use Rattle.oa_model.specs.declared.var_type.ValueType.TheVariants as kinds
use Rattle.oa_array.specs.promise.Arrays.{ArrayValue}
use Rattle.oa_variant.specs.promise.Scalars.{type_of}
use Rattle.oa_variant.specs.declared.scalar.Scalar.{Scalar}
use Rattle.oa_formats.specs.promise.Arrays.{bounds_of}
use Rattle.oa_formats.specs.promise.Values.{of_type, scalar_format}
use Rattle.oa_formats.specs.promise.Variants.{kind}

-- the bytes of a cell of an array of the type, if it fits
unfoldable pub element_image : VarType → Scalar → List ℕ
element_image types.Variant s = scalar_format.image s
element_image t s = (of_type (type_of s)).image s

-- the bytes before the cells
unfoldable pub array_head : ArrayValue Scalar → List ℕ
array_head a = kind.image (kinds.Array a.elem) ++ (bounds_of a.elem).image a.bounds
