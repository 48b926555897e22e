-- The canonical encoding of arrays (this project's choice).
use Rattle.std.specs.Prelude.{ℕ, ◌*◌, Bool, true, is_some, List, length, Option, Some, None}
use Rattle.std.specs.Int.{w32, cast_unsigned}
use Rattle.std.specs.Option.{unwrap_or}
use Rattle.oa_ndr.specs.promise.Writing.{put_unit, put_referent, put_all}
use Rattle.oa_model.specs.declared.bound.Bound.{Bound}
use Rattle.oa_model.specs.declared.var_type.VarType.{VarType}
use Rattle.oa_model.specs.declared.var_type.VarType.TheVariants as types
use Rattle.oa_model.specs.promise.Types.{vt_of, sf_type_of, element_size_of}
use Rattle.oa_array.specs.promise.Arrays.{ArrayValue}
use Rattle.oa_variant.specs.promise.Scalars.{text_of}
use Rattle.oa_variant.specs.declared.scalar.Scalar.{Scalar}
use Rattle.oa_wire_text.specs.promise.Canon.{◌|>◌, put_blob}
use Rattle.oa_wire_array.specs.promise.Canon.{put_arm, put_scalar}

-- Appends a bound.
abbrev pub put_bound : Bound → List ℕ → List ℕ
put_bound b out = out |> put_unit 4 b.count |> put_unit 4 (cast_unsigned w32 b.lower)

-- The referent of the element is set: that of a null text is not, and EMPTY in an array of VARIANT has a pointee.
abbrev pub has_pointee : VarType → Scalar → Bool
has_pointee types.Bstr v = is_some (text_of v)
has_pointee t v = true

-- Appends a text, unless it is null.
abbrev pub put_text : Option (List ℕ) → List ℕ → List ℕ
put_text None out = out
put_text (Some text) out = put_blob (Some text) out

-- Appends the pointee of an element.
abbrev pub put_pointee : VarType → Scalar → List ℕ → List ℕ
put_pointee types.Bstr v out = put_text (text_of v) out
put_pointee t v out = put_scalar v out

-- Appends the referent of an element.
abbrev pub put_cell_referent : VarType → Scalar → List ℕ → List ℕ
put_cell_referent t v out = put_referent (has_pointee t v) out

-- Appends all referents, followed by the pointees.
abbrev pub put_pointed : VarType → List Scalar → List ℕ → List ℕ
put_pointed t cells out = out |> put_all (put_cell_referent t) cells |> put_all (put_pointee t) cells

-- Appends the elements of an array.
abbrev pub put_elements : VarType → List Scalar → List ℕ → List ℕ
put_elements types.Bstr cells out = put_pointed types.Bstr cells out
put_elements types.Variant cells out = put_pointed types.Variant cells out
put_elements t cells out = put_all put_arm cells out

-- The value of fFeatures: FADF_HAVEVARTYPE, with FADF_BSTR or FADF_VARIANT (MS-OAUT section 2.2.9).
abbrev pub features_of : VarType → ℕ
features_of types.Bstr = 384
features_of types.Variant = 2176
features_of t = 128

-- Appends the second referent, the maximum count, cDims, fFeatures and cbElements.
abbrev pub put_shape : VarType → ℕ → List ℕ → List ℕ
put_shape t dims out =
    out |> put_referent true |> put_unit 4 dims |> put_unit 2 dims |> put_unit 2 (features_of t)
    |> put_unit 4 (unwrap_or (element_size_of t) 0)

-- Appends cLocks, whose high half is the type of the elements, sfType, Size and the pointer.
abbrev pub put_size : VarType → ℕ → List ℕ → List ℕ
put_size t count out =
    out |> put_unit 4 (vt_of t * 65536) |> put_unit 4 (unwrap_or (sf_type_of t) 0) |> put_unit 4 count
    |> put_referent true

-- Appends an array, from its second referent on. The prover does not unfold this by itself: each part counts the bytes
-- before it, so that many parts are a large term.
unfoldable pub put_array : ArrayValue Scalar → List ℕ → List ℕ
put_array a out =
    out |> put_shape a.elem (length a.bounds) |> put_size a.elem (length a.cells) |> put_all put_bound a.bounds
    |> put_unit 4 (length a.cells) |> put_elements a.elem a.cells
