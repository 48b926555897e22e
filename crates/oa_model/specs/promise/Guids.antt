-- GUIDs on the wire. Contracts see a GUID as the list of its 16 bytes in the order in which it is printed.
use Rattle.std.specs.Prelude.{ℕ, List}
use Rattle.uuid.specs.Parts.{swap_fields}

-- The bytes with the fields of 4, 2 and 2 bytes reversed, and the last eight unchanged (MS-DTYP section 2.3.4.2).
abbrev pub wire_order : List ℕ → List ℕ
wire_order guid = swap_fields guid
