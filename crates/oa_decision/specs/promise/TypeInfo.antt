-- TYPEINFO: the library's description of an interface or a coclass. (This project's choice.)
use Rattle.std.specs.Prelude.{ℕ, Option, Result, Ok}
use Rattle.oa_model.specs.promise.Codes.{s_ok, disp_e_badindex}
use Rattle.oa_decision.specs.promise.DescriptionFields.{description_field}
use Rattle.oa_typelib.specs.promise.DescriptionValues.{DescriptionValue}
use Rattle.oa_typelib.specs.promise.Descriptions.{description_at}
use Rattle.oa_decision.specs.declared.decision.Decision.{Decision}
use Rattle.oa_decision.specs.declared.decision.Decision.TheVariants.{Answer}
use Rattle.oa_decision.specs.declared.refusal.Refusal.{Refusal}
use Rattle.oa_decision.specs.promise.Refusals.{◌>>=◌, known}
use Rattle.oa_decision.specs.promise.States.{State}

-- the description at an index
unfoldable pub description_of : State → ℕ → Option DescriptionValue
description_of state index = description_at state.library index

abbrev pub information : State → ℕ → Result Decision Refusal
information state index =
    known disp_e_badindex (description_of state index) >>= λ description.
    Ok (Answer s_ok (description_field description))
