-- Written bytes are of the form.
use Rattle.std.proofs.Common.{◌≡◌, ℕ, ◌+◌, ◌*◌, ◌/◌, ◌%◌, ◌^◌, ◌<◌, ◌≤◌, Bool, true, false, List, length, Option, Some, None, refl, sym}
use Rattle.std.proofs.Common.{arith, ℤ}
use Rattle.std.specs.Prelude.{FitsSigned, unsigned_abs}
use Rattle.std.specs.Int.{w8, w16, w32, w64, cast_unsigned}
use mir.Facts.{Fits-of_z, to_z-of_z}
use Rattle.oa_ndr.specs.promise.Writing.{put_unit}
use Rattle.oa_ndr.proofs.WritingLaws.{Writes, then_writes, with_writes, unit_writes, ignored_writes, align_writes, any_writes, bytes_writes}
use Rattle.oa_ndr.proofs.WritingLaws.{nothing_writes, given_writes, referent_writes}
use Rattle.oa_model.specs.promise.Types.{vt_of, is_signed_type}
use Rattle.oa_model.specs.declared.var_type.VarType.{VarType}
use Rattle.oa_model.specs.declared.var_type.VarType.TheVariants as types
use Rattle.oa_model.specs.promise.Limits.{max_text_bytes}
use Rattle.oa_bstr.specs.promise.Text.{bytes_of}
use Rattle.oa_variant.specs.promise.Decimals.{DecimalValue}
use Rattle.oa_variant.specs.promise.Keys.{key_number}
use Rattle.oa_variant.specs.promise.Scalars.{type_of}
use Rattle.oa_variant.specs.Scalars.{IsScalar}
use Rattle.oa_variant.specs.declared.scalar.Scalar.{Scalar}
use Rattle.oa_variant.specs.declared.scalar.Scalar.TheVariants as scalars
use Rattle.oa_wire_text.specs.promise.Texts.{units, blob, bstr}
use Rattle.oa_wire_array.specs.promise.Scalars.{signed_unit, truth, sign_of, sign, decimal, width_of, integer, arm}
use Rattle.oa_wire_array.specs.promise.Scalars.{scalar_vt, scalar}
use Rattle.oa_wire_text.specs.promise.Canon.{put_blob, put_bstr}
use Rattle.oa_wire_array.specs.promise.Canon.{put_truth, put_decimal, put_number, put_arm, put_sized, cl_size}
use Rattle.oa_wire_array.specs.promise.Canon.{put_scalar}
use Rattle.oa_wire_array.proofs.Widths.{IsWidth, of_width, four, width_by, number_bytes}

pub vt_small : (t : VarType) → vt_of t < 32
vt_small types.Empty = omega arith
vt_small t = omega arith

-- two's complement fills the bytes of a number
in_bytes : (z : ℤ) (n : ℕ) → IsWidth n → FitsSigned (width_of n) z → cast_unsigned (width_of n) z < 256 ^ n
in_bytes z = of_width (λ n. FitsSigned (width_of n) z → cast_unsigned (width_of n) z < 256 ^ n)
    (λ fits. let f : FitsSigned w8 z = fits in let small : cast_unsigned w8 z < 256 ^ 1 = omega (arith, Fits-of_z f) in small)
    (λ fits. let f : FitsSigned w16 z = fits in let small : cast_unsigned w16 z < 256 ^ 2 = omega (arith, Fits-of_z f) in small)
    (λ fits. let f : FitsSigned w32 z = fits in let small : cast_unsigned w32 z < 256 ^ 4 = omega (arith, Fits-of_z f) in small)
    (λ fits. let f : FitsSigned w64 z = fits in let small : cast_unsigned w64 z < 256 ^ 8 = omega (arith, Fits-of_z f) in small)

signed_writes : (n : ℕ) → IsWidth n → (z : ℤ) → FitsSigned (width_of n) z → Writes (signed_unit n (width_of n) z) (put_unit n (cast_unsigned (width_of n) z))
signed_writes n is z fits =
    with_writes (cast_unsigned (width_of n) z)
    (then_writes (unit_writes n (cast_unsigned (width_of n) z) (in_bytes z n is fits)) (given_writes (sym (to_z-of_z fits))))

pub signed32_writes : (z : ℤ) → FitsSigned w32 z → Writes (signed_unit 4 w32 z) (put_unit 4 (cast_unsigned w32 z))
signed32_writes z fits = signed_writes 4 four z fits

-- The number is in the range of n bytes.
abbrev IsInBytes : Bool → ℕ → ℤ → Type 0
IsInBytes true n z = FitsSigned (width_of n) z
IsInBytes false n z = unsigned_abs z < 256 ^ n

number_writes : (signed : Bool) (n : ℕ) → IsWidth n → (z : ℤ) → IsInBytes signed n z → Writes (integer signed n z) (put_number signed n z)
number_writes true n is z fits = signed_writes n is z fits
number_writes false n is z fits = unit_writes n (unsigned_abs z) fits

truth_writes : (b : Bool) → Writes (truth b) (put_truth b)
truth_writes true = with_writes 65535 (then_writes (unit_writes 2 65535 (omega arith)) (given_writes refl))
truth_writes false = with_writes 0 (then_writes (unit_writes 2 0 (omega arith)) (given_writes refl))

sign_writes : (b : Bool) → Writes (sign b) (put_unit 1 (sign_of b))
sign_writes true = with_writes 128 (then_writes (unit_writes 1 128 (omega arith)) (given_writes refl))
sign_writes false = with_writes 0 (then_writes (unit_writes 1 0 (omega arith)) (given_writes refl))

decimal_writes : (d : DecimalValue) → d.scale ≤ 28 → d.magnitude < 2 ^ 96 → Writes (decimal d) (put_decimal d)
decimal_writes d small fits =
    let high : d.magnitude / 2 ^ 64 < 256 ^ 4 = omega arith in
    let low : d.magnitude % 2 ^ 64 < 256 ^ 8 = omega arith in
    let parts : d.magnitude ≡ d.magnitude / 2 ^ 64 * 2 ^ 64 + d.magnitude % 2 ^ 64 = omega arith in
    then_writes (align_writes 8) (then_writes (ignored_writes 2 0) (then_writes (unit_writes 1 d.scale (omega arith)) (then_writes (sign_writes d.negative)
    (with_writes (d.magnitude / 2 ^ 64) (then_writes (unit_writes 4 (d.magnitude / 2 ^ 64) high)
    (with_writes (d.magnitude % 2 ^ 64) (then_writes (unit_writes 8 (d.magnitude % 2 ^ 64) low) (given_writes (small, parts)))))))))

pub blob_writes : (t : Option (List ℕ)) → length (bytes_of t) ≤ max_text_bytes → Writes (blob t) (put_blob t)
blob_writes None h =
    then_writes (unit_writes 4 0 (omega arith))
    (then_writes (unit_writes 4 4294967295 (omega arith)) (then_writes (unit_writes 4 0 (omega arith)) nothing_writes))
blob_writes (Some text) h =
    let units_small : units (length text) < 256 ^ 4 = omega arith in
    then_writes (unit_writes 4 (units (length text)) units_small) (then_writes (unit_writes 4 (length text) (omega arith))
    (then_writes (unit_writes 4 (units (length text)) units_small)
    (then_writes (bytes_writes text) (then_writes (any_writes (length text % 2)) (given_writes h)))))

bstr_writes : (t : Option (List ℕ)) → length (bytes_of t) ≤ max_text_bytes → Writes (bstr t) (put_bstr t)
bstr_writes None h = with_writes false (then_writes (referent_writes false) (given_writes refl))
bstr_writes (Some text) h = with_writes true (then_writes (referent_writes true) (blob_writes (Some text) h))

pub arm_writes : (v : Scalar) → IsScalar v → Writes (arm v) (put_arm v)
arm_writes scalars.Empty h = nothing_writes
arm_writes scalars.Null h = nothing_writes
arm_writes (scalars.Bool b) h = truth_writes b
arm_writes (scalars.Bstr t) h = bstr_writes t h
arm_writes (scalars.Decimal d) h = decimal_writes d h.0 h.1
arm_writes v h = number_writes (is_signed_type (type_of v)) (number_bytes (type_of v)) (width_by (number_bytes (type_of v)) refl) (key_number v) h

pub sized_writes : (size : ℕ) (v : Scalar) → IsScalar v → Writes (scalar v) (put_sized size v)
sized_writes size v h =
    let vt = scalar_vt v in
    let small : vt < 32 = vt_small (type_of v) in
    then_writes (align_writes 8) (then_writes (ignored_writes 4 size) (then_writes (ignored_writes 4 0) (then_writes (unit_writes 2 vt (omega arith))
    (then_writes (ignored_writes 2 0) (then_writes (ignored_writes 2 0)
    (then_writes (ignored_writes 2 0) (then_writes (unit_writes 4 vt (omega arith)) (arm_writes v h))))))))

pub scalar_writes : (v : Scalar) → IsScalar v → Writes (scalar v) (put_scalar v)
scalar_writes v h = sized_writes (cl_size v) v h
