-- REPLACE LIBRARY: the library in the body's text replaces the server's (this project's choice).
use Rattle.std.specs.Prelude.{◌≡◌, ◌⊎◌, ℕ, List, Option, Some, None}
use Rattle.oa_idl.specs.promise.Trees.{TreeValue}
use Rattle.oa_model.specs.promise.Codes.{bad_stub_data, e_invalidarg, e_outofmemory, s_ok}
use Rattle.oa_record.specs.promise.Asks.{tag_at}
use Rattle.oa_record.specs.promise.Replacement.{text_in}
use Rattle.oa_record.specs.promise.Replies.{ReplyValue, lost_field}
use Rattle.oa_compat.specs.promise.Keeps.{dispid_lost, first_lost, guid_lost}
use Rattle.oa_compat.specs.promise.LibraryTexts.{MayBeLibrary, StandsFor}
use Rattle.oa_compat.specs.declared.lost.Incompatibility.{Incompatibility}
use Rattle.oa_decision.specs.promise.States.{State}
use Rattle.oa_decision.specs.promise.Decided.{refusal}

-- ---- what a body asks

-- its text is that of this library
pub record AsksLibrary (body : List ℕ) (library : TreeValue) : Type 0 where
  pub text : List ℕ
  pub lies : text_in body ≡ Some text
  pub stands : StandsFor text library

-- its fields have a text that is UTF-8 and not too long; reading it allocates
pub record BringsText (body : List ℕ) : Type 0 where
  pub text : List ℕ
  pub lies : text_in body ≡ Some text
  pub may : MayBeLibrary text

-- ---- what becomes of it

-- the reply: the first incompatibility in the documented order, or success
abbrev pub replacement_reply : ℕ → Option Incompatibility → ReplyValue
replacement_reply tag None = refusal tag s_ok None
replacement_reply tag (Some lost) =
    record { tag = tag; code = e_invalidarg; index = None; body = lost_field (guid_lost lost) (dispid_lost lost) }

-- the table and its locks stay
abbrev pub after_replacement : State → TreeValue → Option Incompatibility → State
after_replacement old library None = record old { library = library }
after_replacement old library (Some lost) = old

-- the body has this library, which replaces the one of the state if it is compatible with it
pub record Replaces (old : State) (body : List ℕ) (reply : ReplyValue) (new : State) : Type 0 where
  pub library : TreeValue
  pub asked : AsksLibrary body library
  pub answers : reply ≡ replacement_reply (tag_at body) (first_lost library old.library)
  pub leaves : new ≡ after_replacement old library (first_lost library old.library)

-- the body has another layout, or its text is no library; nothing changes
pub record RefusesText (old : State) (body : List ℕ) (reply : ReplyValue) (new : State) : Type 0 where
  pub why : (library : TreeValue) → AsksLibrary body library → ⊥
  pub answers : reply ≡ refusal (tag_at body) bad_stub_data None
  pub leaves : new ≡ old

-- an allocation for a text failed; nothing changes
pub record LacksText (old : State) (body : List ℕ) (reply : ReplyValue) (new : State) : Type 0 where
  pub may : BringsText body
  pub answers : reply ≡ refusal (tag_at body) e_outofmemory None
  pub leaves : new ≡ old

abbrev pub Replacement : State → List ℕ → ReplyValue → State → Type 0
Replacement old body reply new =
    Replaces old body reply new ⊎ (RefusesText old body reply new ⊎ LacksText old body reply new)
