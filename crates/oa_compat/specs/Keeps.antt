-- Definitions for contracts and proofs, beside promise/Keeps.
use Rattle.std.specs.Prelude.{ℕ, ℤ, Bool, if◌then◌else◌, slice_get, Option, Some, None}
use Rattle.std.specs.Option.{option_and_then}
use Rattle.oa_idl.specs.promise.Values.{InterfaceValue}
use Rattle.oa_sema.specs.promise.DeclarationValues.{DeclarationValue}
use Rattle.oa_sema.specs.promise.Declarations.{declarations}
use Rattle.oa_typelib.specs.Indexes.{is_put_or_not}
use Rattle.oa_compat.specs.promise.Keeps.{lost_declaration}

-- ---- the first thing that is lost: the old interfaces in the text's order, each with its members as a description has
-- them, so in the order in which their names first occur, a get before its put; then the old coclasses

-- of the declaration at a place, if it is a put, or if it is not
abbrev pub lost_form : InterfaceValue → InterfaceValue → Bool → ℕ → Option ℤ
lost_form now was puts place =
    option_and_then (lost_declaration now)
    (option_and_then (λ (d : DeclarationValue). if is_put_or_not puts d.kind then Some d else None)
    (slice_get (declarations was) place))
