-- A member with the arguments of a call, as it is in memory.
use Rattle.std.specs.Prelude.{ℤ, List, [], ◌∷◌}
use Rattle.oa_variant.specs.declared.scalar.Scalar.{Scalar}
use Rattle.oa_table.specs.declared.place.MemberKey.{MemberKey}
use Rattle.oa_table.specs.declared.place.MemberKey.TheVariants.{Bare, One, Many}

abbrev pub dispid_in : MemberKey → ℤ
dispid_in (Bare dispid) = dispid
dispid_in (One dispid argument) = dispid
dispid_in (Many dispid key) = dispid

-- the arguments, in the order of the parameters
abbrev pub key_in : MemberKey → List Scalar
key_in (Bare dispid) = []
key_in (One dispid argument) = argument ∷ []
key_in (Many dispid key) = key.items
