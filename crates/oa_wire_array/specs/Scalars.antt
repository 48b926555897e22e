-- Definitions for contracts and proofs, beside promise/Scalars.
use Rattle.std.specs.Prelude.{◌≡◌, ℕ, ◌≤◌, List, length}
use Rattle.oa_ndr.specs.promise.Forms.{Encoding, ◌▸◌, given}
use Rattle.oa_variant.specs.declared.scalar.Scalar.{Scalar}
use Rattle.oa_wire_array.specs.promise.Scalars.{scalar_vt, union, own_vt}

-- The union of a scalar whose vt is given.
abbrev pub union_of : ℕ → Scalar → Encoding
union_of vt v = given (scalar_vt v ≡ vt) ▸ union v

-- Decoding this scalar may allocate: it is a text, since the vt is VT_BSTR (MS-OAUT section 2.2.7), and the bytes have
-- the head, the discriminant, the referent and the three numbers before the text, which are 16, 4, 4 and 12 bytes.
abbrev pub TakesText : List ℕ → Type 0
TakesText bytes = (36 ≤ length bytes) × (own_vt bytes ≡ 8)
