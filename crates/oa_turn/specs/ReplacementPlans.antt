-- The plan for a request to replace the library, before anything is changed. (This project's choice.)
use Rattle.std.specs.Prelude.{◌≡◌, ◌⊎◌, ℕ, false, List, Some, None, Result, Ok, Err}
use Rattle.oa_idl.specs.promise.Trees.{TreeValue}
use Rattle.oa_model.specs.promise.Codes.{bad_stub_data, e_outofmemory}
use Rattle.oa_model.specs.declared.hresult.HResult.{HResult}
use Rattle.oa_compat.specs.promise.Keeps.{first_lost}
use Rattle.oa_compat.specs.declared.lost.Incompatibility.{Incompatibility}
use Rattle.oa_compat.specs.declared.library_text.TextError.{TextError}
use Rattle.oa_compat.specs.declared.library_text.TextError.TheVariants.{NoLibrary, Memory}
use Rattle.oa_record.specs.promise.Replies.{ReplyValue}
use Rattle.oa_turn.specs.declared.host.replacement.ReplacementPlan.{ReplacementPlan}
use Rattle.oa_turn.specs.declared.host.replacement.ReplacementPlan.TheVariants.{Answered, Replaced}
use Rattle.oa_turn.specs.promise.Replacing.{AsksLibrary, BringsText, Replacement, replacement_reply}
use Rattle.oa_turn.specs.promise.Events.{is_done}
use Rattle.oa_decision.specs.promise.States.{State}
use Rattle.oa_decision.specs.promise.Decided.{refusal}

-- the code for a text that is no library
abbrev pub text_code : TextError → HResult
text_code NoLibrary = bad_stub_data
text_code Memory = e_outofmemory

-- the library in the body, or why there is none, or an allocation for its text failed
abbrev pub IsLibraryOf : List ℕ → Result TreeValue HResult → Type 0
IsLibraryOf body (Ok library) = AsksLibrary body library
IsLibraryOf body (Err code) =
    ((code ≡ bad_stub_data) × ((library : TreeValue) → AsksLibrary body library → ⊥))
    ⊎ ((code ≡ e_outofmemory) × BringsText body)

-- the reply reports the first incompatibility, or an allocation for it failed
abbrev pub RefusesLoss : ℕ → Incompatibility → ReplyValue → Type 0
RefusesLoss tag lost reply = (reply ≡ replacement_reply tag (Some lost)) ⊎ (reply ≡ refusal tag e_outofmemory None)

-- a library that replaces the one of the state
pub record IsNextLibrary (state : State) (body : List ℕ) (library : TreeValue) : Type 0 where
  pub asked : AsksLibrary body library
  pub keeps : first_lost library state.library ≡ None

-- the turn was taken, and changed nothing; or a library is to replace the one of the state
abbrev pub PlansReplacement : State → List ℕ → ReplacementPlan → Type 0
PlansReplacement state body (Answered reply) = Replacement state body reply state × (is_done reply ≡ false)
PlansReplacement state body (Replaced library) = IsNextLibrary state body library
