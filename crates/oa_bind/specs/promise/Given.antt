-- The arguments of a call and the DISPIDs for which they are given (MS-OAUT section 3.1.4.4).
use Rattle.std.specs.Prelude.{ℕ, ◌-◌, ◌==◌, ℤ, pos, negsuc, unsigned_abs, nat_lt, Bool, false, if◌then◌else◌, List}
use Rattle.std.specs.Prelude.{length, Option, Some, None, slice_get}
use Rattle.std.specs.List.{position_from}
use Rattle.std.specs.Ordering.{int_eq}
use Rattle.oa_model.specs.promise.Codes.{disp_e_paramnotfound}
use Rattle.oa_variant.specs.declared.scalar.Scalar.TheVariants as scalars
use Rattle.oa_variant.specs.declared.variant.Variant.{Variant}
use Rattle.oa_variant.specs.declared.variant.Variant.TheVariants.{One}

-- The arguments of a call in the order of rgvarg. The first ones are named, each by the DISPID at its index in
-- rgdispidNamedArgs; the others are given by position, the last of them for the first parameter.
pub record Given : Type 0 where
  pub named : List ℤ
  pub arguments : List Variant

-- The DISPID of a put's new value (DISPID_PROPERTYPUT, MS-OAUT section 2.2.32.1).
abbrev pub new_value_id : ℤ
new_value_id = negsuc 2

-- The number of arguments that are given by position.
abbrev pub by_position : List ℤ → ℕ → ℕ
by_position named count = count - length named

-- The DISPID is that of one of the first n parameters.
abbrev pub is_parameter : ℕ → ℤ → Bool
is_parameter n (pos place) = nat_lt place n
is_parameter n (negsuc other) = false

-- The index of the argument for a DISPID, among `count` arguments: that of the one by position, otherwise the first
-- with that name. The theorems `argument_is_given` and `each_argument_counts` say that it agrees with `IsGiven`.
unfoldable pub argument_index : List ℤ → ℕ → ℤ → Option ℕ
argument_index named count id =
    if is_parameter (by_position named count) id
    then Some (count - 1 - unsigned_abs id)
    else position_from (λ n. int_eq n id) 0 named

-- The argument at an index, if there is one.
abbrev pub given_argument : Option ℕ → List Variant → Option Variant
given_argument None arguments = None
given_argument (Some i) arguments = slice_get arguments i

-- The argument is marked as missing: it is the ERROR DISP_E_PARAMNOTFOUND.
abbrev pub says_missing : Variant → Bool
says_missing (One (scalars.Error code)) = code == disp_e_paramnotfound.0
says_missing value = false

-- The argument with its index, unless it is marked as missing.
abbrev pub if_not_missing : ℕ → Option Variant → Option (ℕ × Variant)
if_not_missing i None = None
if_not_missing i (Some value) = if says_missing value then None else Some (i, value)

-- The argument at an index with this index, unless it is marked as missing.
abbrev pub argument_at : Option ℕ → List Variant → Option (ℕ × Variant)
argument_at None arguments = None
argument_at (Some i) arguments = if_not_missing i (slice_get arguments i)

-- The argument for the parameter at a place, with its index; None if there is none, or if it is marked as missing.
abbrev pub argument_for : Given → ℕ → Option (ℕ × Variant)
argument_for call place = argument_at (argument_index call.named (length call.arguments) (pos place)) call.arguments
