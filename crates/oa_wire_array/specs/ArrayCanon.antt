-- Definitions for contracts and proofs, beside promise/ArrayCanon.
use Rattle.std.specs.Prelude.{ℕ, ◌+◌, Bool, true, false, if◌then◌else◌}
use Rattle.std.specs.Option.{unwrap_or}
use Rattle.oa_model.specs.declared.var_type.VarType.{VarType}
use Rattle.oa_model.specs.declared.var_type.VarType.TheVariants as types
use Rattle.oa_model.specs.promise.Types.{element_size_of}
use Rattle.oa_wire_array.specs.Canon.{max_wire_scalar}

-- The largest number of bytes of an element's pointee: a scalar at the next multiple of 8, which needs more than any
-- text.
abbrev pub max_wire_pointee : ℕ
max_wire_pointee = 7 + max_wire_scalar

-- The largest number of bytes of an element: its referent and its pointee.
abbrev pub max_wire_cell : ℕ
max_wire_cell = 4 + max_wire_pointee

-- The elements of the type have referents and pointees.
abbrev pub is_pointed : VarType → Bool
is_pointed types.Bstr = true
is_pointed types.Variant = true
is_pointed t = false

-- The number of bytes of an element without a pointee; 0 if there is no such element.
abbrev pub plain_width : VarType → ℕ
plain_width t = if is_pointed t then 0 else unwrap_or (element_size_of t) 0
