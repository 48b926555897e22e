-- The encoding of an array: wireSAFEARRAY (MS-OAUT section 2.2.30.10) from its second referent on. The order of bounds
-- and elements, and that a null referent in an array of VARIANT is EMPTY, are this project's choice.
use Rattle.std.specs.Prelude.{◌≡◌, Bool, true, false, List, length, Some}
use Rattle.std.specs.Int.{w32}
use Rattle.oa_ndr.specs.promise.Forms.{Encoding, ◌▸◌, ignored, unit, with, given, referent, each, pairwise, made}
use Rattle.oa_model.specs.declared.bound.Bound.{Bound}
use Rattle.oa_model.specs.declared.var_type.VarType.{VarType}
use Rattle.oa_model.specs.declared.var_type.VarType.TheVariants as types
use Rattle.oa_model.specs.promise.Types.{sf_type_of}
use Rattle.oa_array.specs.promise.Arrays.{ArrayValue, IsArray}
use Rattle.oa_variant.specs.promise.Scalars.{FitsType}
use Rattle.oa_variant.specs.declared.scalar.Scalar.{Scalar}
use Rattle.oa_variant.specs.declared.scalar.Scalar.TheVariants as scalars
use Rattle.oa_wire_text.specs.promise.Texts.{pointee}
use Rattle.oa_wire_array.specs.promise.Scalars.{signed_unit, arm, scalar}

-- A bound: cElements, lLbound.
abbrev pub bound : Bound → Encoding
bound b = unit 4 b.count ▸ signed_unit 4 w32 b.lower

-- The pointee of an element's referent: a text, or a scalar with its type.
abbrev pub cell_pointee : VarType → Bool → Scalar → Encoding
cell_pointee types.Bstr is_set v = made scalars.Bstr (pointee is_set) v
cell_pointee types.Variant true v = scalar v
cell_pointee types.Variant false v = given (v ≡ scalars.Empty)
cell_pointee t is_set v = given ⊥

-- The elements with pointees: first all referents, then the pointees, in order.
abbrev pub pointed : VarType → List Scalar → Encoding
pointed t cells = with (each referent) (λ flags. pairwise (cell_pointee t) flags cells)

-- The elements of an array.
abbrev pub elements : VarType → List Scalar → Encoding
elements types.Bstr cells = pointed types.Bstr cells
elements types.Variant cells = pointed types.Variant cells
elements t cells = each arm cells

-- The array has one element for each index list, and no locks, which belong to a session.
abbrev pub IsUnlockedArray : ArrayValue Scalar → Type 0
IsUnlockedArray a = IsArray FitsType a × (a.locks ≡ 0)

-- The bounds, the maximum count of the data, and the data.
abbrev pub dimensions : ArrayValue Scalar → Encoding
dimensions a = each bound a.bounds ▸ unit 4 (length a.cells) ▸ elements a.elem a.cells

-- The maximum count, cDims, fFeatures, cbElements, cLocks, sfType, Size and the pointer to the data, followed by the
-- data.
abbrev pub header : ArrayValue Scalar → Encoding
header a =
    unit 4 (length a.bounds) ▸ unit 2 (length a.bounds) ▸ ignored 2 ▸ ignored 4 ▸ ignored 4
    ▸ with (unit 4) (λ sf. given (sf_type_of a.elem ≡ Some sf) ▸ unit 4 (length a.cells) ▸ ignored 4 ▸ dimensions a)

-- The second referent, which is set, and the rest of the array.
abbrev pub array : ArrayValue Scalar → Encoding
array a = given (IsUnlockedArray a) ▸ referent true ▸ header a
