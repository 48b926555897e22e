-- Definitions for contracts and proofs, beside promise/Variants.
use Rattle.std.specs.Prelude.{◌≡◌, ℕ, ◌-◌, ◌≤◌, ◌⊎◌, true, List, length, Result, Ok, Err}
use Rattle.oa_model.specs.promise.Invoke.{vt_array}
use Rattle.oa_model.specs.promise.Types.{type_at}
use Rattle.oa_variant.specs.declared.variant.Variant.{Variant}
use Rattle.oa_wire_array.specs.promise.Scalars.{own_vt}
use Rattle.oa_wire_array.specs.Scalars.{TakesText}
use Rattle.oa_wire_array.specs.declared.fault.WireFault.{WireFault}
use Rattle.oa_wire_array.specs.declared.fault.WireFault.TheVariants.{BadStub, BadVarType, Memory}
use Rattle.oa_wire_variant.specs.promise.Variants.{Spells, is_cell_type, field_fault}

-- The vt of an array, with a type of which there are arrays.
abbrev pub IsArrayVt : ℕ → Type 0
IsArrayVt vt = (vt_array ≤ vt) × (is_cell_type (type_at (vt - vt_array)) ≡ true)

-- Decoding these bytes may allocate: they are a text; or they are an array, since the vt is VT_ARRAY with a type of
-- elements (MS-OAUT section 2.2.7), and have the head, the discriminant, the two referents and the numbers before the
-- bounds, which are 16, 4, 8 and 28 bytes.
abbrev pub TakesMemory : List ℕ → Type 0
TakesMemory bytes = TakesText bytes ⊎ ((56 ≤ length bytes) × IsArrayVt (own_vt bytes))

-- The result of decoding a field is right: the value that its bytes encode, or its error if they encode none. `Memory`
-- occurs only if the decoding may allocate.
abbrev pub ReadsVariant : List ℕ → Result Variant WireFault → Type 0
ReadsVariant bytes (Ok v) = Spells bytes v
ReadsVariant bytes (Err Memory) = TakesMemory bytes
ReadsVariant bytes (Err BadStub) = ((v : Variant) → Spells bytes v → ⊥) × (field_fault bytes ≡ BadStub)
ReadsVariant bytes (Err BadVarType) = ((v : Variant) → Spells bytes v → ⊥) × (field_fault bytes ≡ BadVarType)
