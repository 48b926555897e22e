-- The encoding of a scalar: wireVARIANT (MS-OAUT section 2.2.29) with the arm of its type. The alignment is that of NDR
-- (C706 14.2.2). That CURRENCY, DECIMAL and wireVARIANT begin at a multiple of 8 is this project's choice.
use Rattle.std.specs.Prelude.{◌≡◌, ℕ, ℤ, ◌+◌, ◌*◌, ◌^◌, ◌≤◌, ◌==◌, Bool, true, false, not, List, drop, unsigned_abs}
use Rattle.std.specs.Prelude.{if◌then◌else◌}
use Rattle.std.specs.Option.{unwrap_or}
use Rattle.byteorder.specs.Endian.{little_number}
use Rattle.std.specs.Int.{Width, w8, w16, w32, w64, cast_signed}
use Rattle.oa_ndr.specs.promise.Forms.{Encoding, ◌▸◌, nothing, align, ignored, unit, with, given}
use Rattle.oa_model.specs.promise.Types.{vt_of, is_signed_type, element_size_of}
use Rattle.oa_variant.specs.promise.Decimals.{DecimalValue}
use Rattle.oa_variant.specs.promise.Keys.{key_number}
use Rattle.oa_variant.specs.promise.Scalars.{type_of}
use Rattle.oa_variant.specs.declared.scalar.Scalar.{Scalar}
use Rattle.oa_variant.specs.declared.scalar.Scalar.TheVariants as scalars
use Rattle.oa_wire_text.specs.promise.Texts.{bstr}

-- A signed number of the width w, in n bytes.
abbrev pub signed_unit : ℕ → Width → ℤ → Encoding
signed_unit n w z = with (unit n) (λ x. given (z ≡ cast_signed w x))

-- VARIANT_BOOL (MS-OAUT section 2.2.27): any number except 0 is true (this project's choice).
abbrev pub truth : Bool → Encoding
truth b = with (unit 2) (λ x. given (b ≡ not (x == 0)))

-- The byte of a sign, 0x80 for minus.
abbrev pub sign_of : Bool → ℕ
sign_of false = 0
sign_of true = 128

abbrev pub sign : Bool → Encoding
sign negative = with (unit 1) (λ x. given (x ≡ sign_of negative))

-- DECIMAL (MS-OAUT section 2.2.26): a reserved number, scale, sign, Hi32, Lo64.
abbrev pub decimal : DecimalValue → Encoding
decimal d =
    align 8 ▸ ignored 2 ▸ unit 1 d.scale ▸ sign d.negative
    ▸ with (unit 4) (λ high. with (unit 8) (λ low. given ((d.scale ≤ 28) × (d.magnitude ≡ high * 2 ^ 64 + low))))

-- The width of a number of this many bytes.
abbrev pub width_of : ℕ → Width
width_of n = if n == 1 then w8 else if n == 2 then w16 else if n == 8 then w64 else w32

-- A number in n bytes, signed or not.
abbrev pub integer : Bool → ℕ → ℤ → Encoding
integer true n z = signed_unit n (width_of n) z
integer false n z = unit n (unsigned_abs z)

-- The arm of the scalar's type. A number has as many bytes as an element of an array of its type; ERROR, which no
-- array has, is one of 4 bytes.
abbrev pub arm : Scalar → Encoding
arm scalars.Empty = nothing
arm scalars.Null = nothing
arm (scalars.Bool b) = truth b
arm (scalars.Bstr t) = bstr t
arm (scalars.Decimal d) = decimal d
arm v = integer (is_signed_type (type_of v)) (unwrap_or (element_size_of (type_of v)) 4) (key_number v)

-- The number of a scalar's type.
abbrev pub scalar_vt : Scalar → ℕ
scalar_vt v = vt_of (type_of v)

-- The union of a scalar: the discriminant, which is the vt, and the arm.
abbrev pub union : Scalar → Encoding
union v = unit 4 (scalar_vt v) ▸ arm v

-- The vt of a wireVARIANT.
abbrev pub own_vt : List ℕ → ℕ
own_vt bytes = little_number 2 (drop 8 bytes)

-- A wireVARIANT: clSize, rpcReserved, vt, three reserved numbers, the union.
abbrev pub scalar : Scalar → Encoding
scalar v = align 8 ▸ ignored 4 ▸ ignored 4 ▸ unit 2 (scalar_vt v) ▸ ignored 2 ▸ ignored 2 ▸ ignored 2 ▸ union v
