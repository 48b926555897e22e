-- The canonical encoding of scalars: the content of ignored parts, and the choices between encodings (this project's
-- choice).
use Rattle.std.specs.Prelude.{ℕ, ℤ, ◌+◌, ◌/◌, ◌%◌, ◌^◌, unsigned_abs, Bool, true, false, if◌then◌else◌, List, []}
use Rattle.std.specs.Prelude.{length}
use Rattle.std.specs.Int.{cast_unsigned}
use Rattle.std.specs.Option.{unwrap_or}
use Rattle.oa_model.specs.promise.Types.{is_signed_type, element_size_of}
use Rattle.oa_ndr.specs.promise.Writing.{put_align, put_unit}
use Rattle.oa_variant.specs.promise.Decimals.{DecimalValue}
use Rattle.oa_variant.specs.promise.Keys.{key_number}
use Rattle.oa_variant.specs.promise.Scalars.{type_of}
use Rattle.oa_variant.specs.declared.scalar.Scalar.{Scalar}
use Rattle.oa_variant.specs.declared.scalar.Scalar.TheVariants as scalars
use Rattle.oa_wire_text.specs.promise.Canon.{◌|>◌, put_bstr}
use Rattle.oa_wire_array.specs.promise.Scalars.{scalar_vt, sign_of, width_of}

-- Appends a VARIANT_BOOL.
abbrev pub put_truth : Bool → List ℕ → List ℕ
put_truth b out = out |> put_unit 2 (if b then 65535 else 0)

-- Appends a DECIMAL.
abbrev pub put_decimal : DecimalValue → List ℕ → List ℕ
put_decimal d out =
    out |> put_align 8 |> put_unit 2 0 |> put_unit 1 d.scale |> put_unit 1 (sign_of d.negative)
    |> put_unit 4 (d.magnitude / 2 ^ 64) |> put_unit 8 (d.magnitude % 2 ^ 64)

-- Appends a number in n bytes, signed or not.
abbrev pub put_number : Bool → ℕ → ℤ → List ℕ → List ℕ
put_number true n z out = out |> put_unit n (cast_unsigned (width_of n) z)
put_number false n z out = out |> put_unit n (unsigned_abs z)

-- Appends the arm of a scalar.
abbrev pub put_arm : Scalar → List ℕ → List ℕ
put_arm scalars.Empty out = out
put_arm scalars.Null out = out
put_arm (scalars.Bool b) out = out |> put_truth b
put_arm (scalars.Bstr t) out = out |> put_bstr t
put_arm (scalars.Decimal d) out = out |> put_decimal d
put_arm v out =
    out |> put_number (is_signed_type (type_of v)) (unwrap_or (element_size_of (type_of v)) 4) (key_number v)

-- Appends clSize, rpcReserved, vt and three reserved numbers.
abbrev pub put_head : ℕ → ℕ → List ℕ → List ℕ
put_head size vt out =
    out |> put_align 8 |> put_unit 4 size |> put_unit 4 0 |> put_unit 2 vt |> put_unit 2 0 |> put_unit 2 0
    |> put_unit 2 0

-- Appends a scalar with a given clSize.
abbrev pub put_sized : ℕ → Scalar → List ℕ → List ℕ
put_sized size v out = out |> put_head size (scalar_vt v) |> put_unit 4 (scalar_vt v) |> put_arm v

-- The number of bytes of a scalar, from its first byte to the last of its pointee.
unfoldable pub scalar_len : Scalar → ℕ
scalar_len v = length (put_sized 0 v [])

-- The value of clSize: the number of bytes in units of 8, rounded up.
abbrev pub cl_size : Scalar → ℕ
cl_size v = (scalar_len v + 7) / 8 % 2 ^ 32

-- Appends a scalar.
abbrev pub put_scalar : Scalar → List ℕ → List ℕ
put_scalar v out = put_sized (cl_size v) v out
