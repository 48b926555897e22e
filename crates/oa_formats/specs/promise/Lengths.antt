-- The lengths of the images of values, by counting: a reader of a limit needs these definitions, and no format.
-- Whatever counts the bytes of a value in memory returns these numbers and the length of its image. (This project's
-- choice.)
use Rattle.std.specs.Prelude.{ℕ, ◌+◌, ◌*◌, length}
use Rattle.std.specs.List.{sum_by}
use Rattle.std.specs.Option.{unwrap_or}
use Rattle.oa_model.specs.promise.Types.{element_size_of}
use Rattle.oa_model.specs.declared.var_type.VarType.{VarType}
use Rattle.oa_model.specs.declared.var_type.VarType.TheVariants as types
use Rattle.oa_bstr.specs.promise.Text.{bytes_of}
use Rattle.oa_variant.specs.promise.Scalars.{type_of, text_of}
use Rattle.oa_variant.specs.declared.scalar.Scalar.{Scalar}
use Rattle.oa_variant.specs.declared.variant.Variant.{Variant}
use Rattle.oa_variant.specs.declared.variant.Variant.TheVariants.{One, Array}

-- the content of a scalar of a type: of a text the number of its bytes, and the bytes; there is no scalar of VARIANT;
-- of a number, as many bytes as an element of an array has
unfoldable pub content_size : VarType → Scalar → ℕ
content_size types.Empty s = 0
content_size types.Null s = 0
content_size types.Bool s = 1
content_size types.Bstr s = 4 + length (bytes_of (text_of s))
content_size types.Decimal s = 14
content_size types.Error s = 4
content_size types.Variant s = 0
content_size t s = unwrap_or (element_size_of t) 0

-- the number of the type, and the content
unfoldable pub scalar_size : Scalar → ℕ
scalar_size s = 2 + content_size (type_of s) s

-- an element of an array: without the number of its type, except in an array of VARIANT
unfoldable pub element_size : VarType → Scalar → ℕ
element_size types.Variant = scalar_size
element_size t = content_size t

-- a scalar; or the number of the type, the number of bounds, each bound with a count and a lowest index, and the
-- elements
unfoldable pub value_size : Variant → ℕ
value_size (One s) = scalar_size s
value_size (Array a) = 4 + 8 * length a.bounds + sum_by (element_size a.elem) a.cells
