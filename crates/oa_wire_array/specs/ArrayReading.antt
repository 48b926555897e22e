-- Decoding arrays as functions on lists, which agree with the forms (the theorems are in proofs/ArrayLaws).
use Rattle.std.specs.Prelude.{◌≡◌, ℕ, ◌==◌, ◌&&◌, nat_lt, nat_le, is_some, Bool, false, List, length, Option, Some}
use Rattle.std.specs.Prelude.{None, Result, Ok, Err}
use Rattle.std.specs.Int.{w32}
use Rattle.oa_model.specs.promise.Limits.{max_dimensions, max_cells}
use Rattle.oa_ndr.specs.promise.Reading.{Cursor, Decoder, ◌>>=◌, give, fail, many}
use Rattle.oa_ndr.specs.Reading.{choose, unit_at, referent_at, map_at}
use Rattle.oa_model.specs.declared.bound.Bound.{Bound}
use Rattle.oa_model.specs.declared.var_type.VarType.{VarType}
use Rattle.oa_model.specs.declared.var_type.VarType.TheVariants as types
use Rattle.oa_model.specs.promise.Types.{sf_type_of}
use Rattle.oa_array.specs.promise.Arrays.{ArrayValue}
use Rattle.oa_array.specs.promise.Boxes.{box_size}
use Rattle.oa_variant.specs.declared.scalar.Scalar.{Scalar}
use Rattle.oa_variant.specs.declared.scalar.Scalar.TheVariants as scalars
use Rattle.oa_wire_text.specs.declared.fault.StubFault.{StubFault}
use Rattle.oa_wire_text.specs.declared.fault.StubFault.TheVariants.{BadStub, Memory}
use Rattle.oa_wire_text.specs.Reading.{blob_at}
use Rattle.oa_wire_array.specs.Reading.{signed_at, scalar_at, arm_at}

-- As `ReadsField`, with the value seen through `view`.
abbrev pub ReadsFieldBy : {X Y : Type 0} → (X → Y) → Result X StubFault → Cursor → Option (Y × Cursor) → Type 0
ReadsFieldBy view (Ok x) new read = read ≡ Some (view x, new)
ReadsFieldBy view (Err BadStub) new read = read ≡ None
ReadsFieldBy view (Err Memory) new read = Unit {0}

-- Reads a bound.
unfoldable pub bound_at : Decoder Bound
bound_at = do
  count ← unit_at 4
  lower ← signed_at 4 w32
  give (record { count = count; lower = lower })

-- Reads the text after a referent; null if the referent is null.
unfoldable pub text_cell_at : Bool → Decoder Scalar
text_cell_at is_set = do
  t ← choose is_set blob_at (give None)
  give (scalars.Bstr t)

-- Reads the scalar after a referent; EMPTY if the referent is null.
unfoldable pub variant_cell_at : Bool → Decoder Scalar
variant_cell_at is_set = choose is_set scalar_at (give scalars.Empty)

-- Reads the pointee of an element.
unfoldable pub pointee_at : VarType → Bool → Decoder Scalar
pointee_at types.Bstr is_set = text_cell_at is_set
pointee_at types.Variant is_set = variant_cell_at is_set
pointee_at t is_set = fail

-- Reads n referents, followed by their pointees.
unfoldable pub pointed_at : VarType → ℕ → Decoder (List Scalar)
pointed_at t n = do
  flags ← many referent_at n
  map_at (pointee_at t) flags

-- Reads n elements.
unfoldable pub elements_at : VarType → ℕ → Decoder (List Scalar)
elements_at types.Bstr n = pointed_at types.Bstr n
elements_at types.Variant n = pointed_at types.Variant n
elements_at t n = many (arm_at t) n

abbrev pub is_number : Option ℕ → ℕ → Bool
is_number None n = false
is_number (Some m) n = m == n

-- Arrays of the type have this sfType.
abbrev pub has_sf_type : VarType → ℕ → Bool
has_sf_type t sf = is_number (sf_type_of t) sf

-- There is an array of this type and these bounds, and it has n elements.
unfoldable pub is_count : VarType → List Bound → ℕ → Bool
is_count t bounds n =
    is_some (sf_type_of t) && nat_lt 0 (length bounds) && nat_le (length bounds) max_dimensions
    && nat_le (box_size bounds) max_cells && (box_size bounds == n)

abbrev pub array_with : VarType → List Bound → List Scalar → ArrayValue Scalar
array_with t bounds cells = record { elem = t; bounds = bounds; cells = cells; locks = 0 }

-- Reads the elements of an array.
unfoldable pub cells_at : VarType → List Bound → ℕ → Decoder (ArrayValue Scalar)
cells_at t bounds size = do
  cells ← elements_at t size
  give (array_with t bounds cells)

-- Reads the bounds, the maximum count of the data, and the data.
unfoldable pub data_at : VarType → ℕ → ℕ → Decoder (ArrayValue Scalar)
data_at t dims size = do
  bounds ← many bound_at dims
  maximum ← unit_at 4
  choose ((maximum == size) && is_count t bounds size) (cells_at t bounds size) fail

-- Reads an array, after its second referent.
unfoldable pub header_at : VarType → Decoder (ArrayValue Scalar)
header_at t = do
  maximum ← unit_at 4
  dims ← unit_at 2
  _ ← unit_at 2
  _ ← unit_at 4
  _ ← unit_at 4
  sf ← unit_at 4
  size ← unit_at 4
  _ ← unit_at 4
  choose ((maximum == dims) && nat_le dims max_dimensions && has_sf_type t sf) (data_at t dims size) fail

-- Reads an array from its second referent on.
unfoldable pub array_at : VarType → Decoder (ArrayValue Scalar)
array_at t = do
  is_set ← referent_at
  choose is_set (header_at t) fail
