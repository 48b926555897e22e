-- Coercion of values to types (this project's selection from the conversions of VariantChangeType). Texts are not
-- parsed as numbers, and numbers are not printed as texts.
use Rattle.std.specs.Prelude.{◌&&◌, ◌||◌, if◌then◌else◌}
use Rattle.oa_model.specs.promise.Integers.{is_signed_integer}
use Rattle.oa_model.specs.declared.var_type.VarType.{VarType}
use Rattle.oa_model.specs.declared.var_type.VarType.TheVariants as types
use Rattle.oa_model.specs.declared.var_type.ValueType.{ValueType}
use Rattle.oa_model.specs.declared.var_type.ValueType.TheVariants as kinds
use Rattle.oa_variant.specs.promise.Scalars.{same_type}
use Rattle.oa_coerce.specs.promise.Numbers.{counts_units, is_number_type}
use Rattle.oa_coerce.specs.declared.rule.Rule.{Rule}
use Rattle.oa_coerce.specs.declared.rule.Rule.TheVariants.{Unchanged, Zero, Nearest, Exact, ToTruth, NoRule}

-- The rule for the coercion of a scalar from one type to another: the first that applies. A whole number in the range
-- of a type is nearest to itself, so that `Nearest` also covers the integers.
abbrev pub rule_for : VarType → VarType → Rule
rule_for from to =
    if same_type to types.Variant || same_type from to then Unchanged
    else if same_type from types.Empty then Zero
    else if is_number_type from && counts_units to then Nearest
    else if same_type from types.Bool && is_signed_integer to then Nearest
    else if counts_units from && same_type to types.Decimal then Exact
    else if is_signed_integer from && same_type to types.Bool then ToTruth
    else NoRule

-- The rule for values: an array is unchanged or refused, and EMPTY is the only scalar that becomes an array.
abbrev pub rule_of : ValueType → ValueType → Rule
rule_of (kinds.One from) (kinds.One to) = rule_for from to
rule_of (kinds.One from) (kinds.Array to) = if same_type from types.Empty then Zero else NoRule
rule_of (kinds.Array from) (kinds.One to) = if same_type to types.Variant then Unchanged else NoRule
rule_of (kinds.Array from) (kinds.Array to) = if same_type from to then Unchanged else NoRule
