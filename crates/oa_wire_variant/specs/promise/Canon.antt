-- The canonical encoding of a field: the content of ignored parts, and the choices between encodings (this project's
-- choice).
use Rattle.std.specs.Prelude.{ℕ, ◌+◌, ◌/◌, ◌%◌, ◌^◌, true, List, [], length}
use Rattle.oa_ndr.specs.promise.Writing.{put_unit, put_referent}
use Rattle.oa_model.specs.promise.Invoke.{vt_array}
use Rattle.oa_model.specs.promise.Types.{vt_of}
use Rattle.oa_array.specs.promise.Arrays.{ArrayValue}
use Rattle.oa_variant.specs.declared.scalar.Scalar.{Scalar}
use Rattle.oa_variant.specs.declared.variant.Variant.{Variant}
use Rattle.oa_variant.specs.declared.variant.Variant.TheVariants.{One, Array}
use Rattle.oa_wire_text.specs.promise.Canon.{◌|>◌}
use Rattle.oa_wire_array.specs.promise.Canon.{put_head, put_scalar}
use Rattle.oa_wire_array.specs.promise.ArrayCanon.{put_array}

-- The bytes before the second referent of an array; the discriminant is VT_ARRAY.
abbrev pub put_array_head : ℕ → ℕ → List ℕ → List ℕ
put_array_head size vt out = out |> put_head size vt |> put_unit 4 vt_array |> put_referent true

-- An array with a given clSize.
abbrev pub put_sized_array : ℕ → ArrayValue Scalar → List ℕ → List ℕ
put_sized_array size a out = out |> put_array_head size (vt_of a.elem + vt_array) |> put_array a

-- The number of bytes of an array, from the first of its wireVARIANT to the last of its pointees.
unfoldable pub array_len : ArrayValue Scalar → ℕ
array_len a = length (put_sized_array 0 a [])

-- Appends the canonical encoding of a value. clSize counts its bytes in units of 8, rounded up.
abbrev pub put_variant : Variant → List ℕ → List ℕ
put_variant (One s) out = put_scalar s out
put_variant (Array a) out = put_sized_array ((array_len a + 7) / 8 % 2 ^ 32) a out

-- The canonical encoding of a value as a whole field.
abbrev pub canon : Variant → List ℕ
canon v = put_variant v []
