-- The lines of a dump. (This project's choice.)
use Rattle.std.specs.Prelude.{◌≡◌, ℕ, ℤ, Bool, if◌then◌else◌, List, [], ◌∷◌, ◌++◌, codes}
use Rattle.std.specs.Fmt.{decimal, signed_decimal}
use Rattle.std.specs.List.{flat_map}
use Rattle.hex.specs.Hex.{encode_lower}
use Rattle.uuid.specs.Text.{hyphenated_text, lower}
use Rattle.oa_formats.specs.promise.Values.{scalar_format as a_scalar}
use Rattle.oa_formats.specs.promise.Variants.{value as a_value}
use Rattle.oa_variant.specs.declared.scalar.Scalar.{Scalar}
use Rattle.oa_variant.specs.declared.variant.Variant.{Variant}
use Rattle.oa_table.specs.promise.Places.{PlaceValue}
use Rattle.oa_table.specs.promise.Tables.{ObjectValue, TableValue}
use Rattle.oa_stream.specs.promise.Sink.{Breaks, Output, Writes}
use Rattle.oa_commands.specs.declared.fault.Fault.{Fault}
use Rattle.oa_commands.specs.declared.fault.Fault.TheVariants as faults

-- the digits of a key; a hyphen for one without scalars
unfoldable pub key_digits : List Scalar → List ℕ
key_digits [] = codes "-"
key_digits (first ∷ rest) = encode_lower (flat_map a_scalar.image (first ∷ rest))

-- a cell's line up to its key
unfoldable pub cell_start : List ℕ → ℤ → List ℕ
cell_start interface dispid =
    codes "cell " ++ (hyphenated_text lower interface ++ (codes " " ++ (signed_decimal dispid ++ codes " ")))

-- the rest of it
unfoldable pub value_digits : Variant → List ℕ
value_digits value = codes " " ++ encode_lower (a_value.image value) ++ codes "\n"

abbrev pub cell_place : PlaceValue → List ℕ
cell_place place = cell_start place.interface place.dispid ++ key_digits place.key

abbrev pub cell_line : PlaceValue × Variant → List ℕ
cell_line cell = cell_place cell.0 ++ value_digits cell.1

unfoldable pub object_line : ℕ → ObjectValue → List ℕ
object_line number object =
    codes "object " ++ (decimal number ++ (codes " " ++ (hyphenated_text lower object.class ++ codes "\n")))

-- an object's line, and those of its cells
abbrev pub object_lines : ℕ × ObjectValue → List ℕ
object_lines entry = object_line entry.0 entry.1 ++ flat_map cell_line entry.1.cells

-- the first line
unfoldable pub next_line : ℕ → List ℕ
next_line next = codes "next " ++ (decimal next ++ codes "\n")

abbrev pub table_lines : TableValue → List ℕ
table_lines table = next_line table.next ++ flat_map object_lines table.objects

-- what is printed of a store: its objects, or its library instead
abbrev pub dump : Bool → List ℕ → TableValue → List ℕ
dump library text table = if library then text else table_lines table

-- ---- what is left where lines are broken off

-- a prefix of these bytes was put
pub record PutsFront (old new : Output) (bytes : List ℕ) : Type 0 where
  pub front : List ℕ
  pub rest : List ℕ
  pub parts : bytes ≡ front ++ rest
  pub put : Writes old new front

-- This fault is returned for bytes that are made and put: the writer has failed, or an allocation failed after a
-- prefix of them.
abbrev pub BreaksOff : Output → Output → List ℕ → Fault → Type 0
BreaksOff old new bytes faults.Write = Breaks old new bytes
BreaksOff old new bytes faults.Memory = PutsFront old new bytes
BreaksOff old new bytes other = ⊥
