-- Variants (MS-OAUT section 2.2.29).
use Rattle.std.specs.Prelude.{Bool, false, [], ◌∷◌, pos}
use Rattle.oa_model.specs.declared.bound.Bound.{Bound}
use Rattle.oa_model.specs.declared.var_type.VarType.TheVariants as types
use Rattle.oa_model.specs.declared.var_type.ValueType.{ValueType}
use Rattle.oa_model.specs.declared.var_type.ValueType.TheVariants as kinds
use Rattle.oa_array.specs.promise.Arrays.{with_locks}
use Rattle.oa_variant.specs.declared.variant.Variant.{Variant}
use Rattle.oa_variant.specs.declared.variant.Variant.TheVariants.{One, Array}
use Rattle.oa_variant.specs.promise.Scalars.{type_of, zero_of, same_type, fits_type}

-- The type of a value.
abbrev pub value_type_of : Variant → ValueType
value_type_of (One s) = kinds.One (type_of s)
value_type_of (Array a) = kinds.Array a.elem

-- A property of the declared type can have the value: it is of that type, or the type is VARIANT.
abbrev pub fits_declared : Variant → ValueType → Bool
fits_declared (One s) (kinds.One t) = fits_type s t
fits_declared (One s) (kinds.Array t) = false
fits_declared (Array a) (kinds.One t) = same_type t types.Variant
fits_declared (Array a) (kinds.Array t) = same_type a.elem t

-- The value without the locks of an array.
abbrev pub unlocked : Variant → Variant
unlocked (One s) = One s
unlocked (Array a) = Array (with_locks a 0)

-- The bound of a dimension without indices.
abbrev pub no_indices : Bound
no_indices = record { count = 0; lower = pos 0 }

-- The value of a cell of a declared type before its first put (this project's choice). For an array type it is the
-- array of one dimension without indices, which has no elements.
abbrev pub zero_value : ValueType → Variant
zero_value (kinds.One t) = One (zero_of t)
zero_value (kinds.Array t) = Array (record { elem = t; bounds = no_indices ∷ []; cells = []; locks = 0 })
