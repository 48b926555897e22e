-- A body that asks for another library.
use Rattle.std.proofs.Common.{◌≡◌, ◌⊎◌, inl, inr, ℕ, false, List, Option, Some, None, Result, Ok, Err, refl, sym, ap, ◌∙◌, subst}
use Rattle.std.specs.Result.{IsErrAnd, MatchResult}
use Rattle.oa_idl.specs.promise.Trees.{TreeValue}
use Rattle.oa_compat.specs.promise.Keeps.{first_lost}
use Rattle.oa_compat.specs.declared.lost.Incompatibility.{Incompatibility}
use Rattle.oa_compat.specs.LibraryTexts.{IsTextOf}
use Rattle.oa_compat.specs.promise.LibraryTexts.{MayBeLibrary, StandsFor}
use Rattle.oa_compat.specs.declared.library_text.TextError.{TextError}
use Rattle.oa_compat.specs.declared.library_text.TextError.TheVariants.{NoLibrary, Memory}
use Rattle.oa_model.specs.promise.Codes.{bad_stub_data, e_outofmemory, s_ok}
use Rattle.oa_model.specs.declared.hresult.HResult.{HResult}
use Rattle.oa_record.specs.promise.Asks.{tag_at}
use Rattle.oa_record.specs.promise.Replacement.{text_in}
use Rattle.oa_record.specs.promise.Replies.{ReplyValue}
use Rattle.oa_turn.specs.promise.Events.{is_done}
use Rattle.oa_turn.specs.ReplacementPlans.{IsLibraryOf, IsNextLibrary, RefusesLoss, text_code}
use Rattle.oa_turn.specs.promise.Replacing.{AsksLibrary, BringsText, Replacement, after_replacement, replacement_reply}
use Rattle.oa_decision.specs.promise.States.{State}
use Rattle.oa_decision.specs.promise.Decided.{refusal}

-- ---- which library a body asks for
one_text : (a b : List ℕ) → Some a ≡ Some b → b ≡ a
one_text a b e = cc

module _ (body : List ℕ) where
  module _ (text : List ℕ) (lies : text_in body ≡ Some text) where
    pub has_text : MayBeLibrary text → BringsText body
    has_text may = record { text = text; lies = lies; may = may }

    -- a text that gives no library, or one that memory was refused to
    text_unread : (e : TextError) → IsTextOf text (Err e) → ((text_code e ≡ bad_stub_data) × ((library : TreeValue) → AsksLibrary body library → ⊥))
        ⊎ ((text_code e ≡ e_outofmemory) × BringsText body)
    text_unread NoLibrary none =
        inl (refl, λ library asks. none library (subst (λ (l : List ℕ). StandsFor l library) (one_text text asks.text (sym lies ∙ asks.lies)) asks.stands))
    text_unread Memory may = inr (refl, has_text may)

    -- what was made of the answer for a text: its library, or the code where there is none
    pub text_told : (P : TextError → HResult → Type 0) (from : Result TreeValue TextError) (to : Result TreeValue HResult) → IsTextOf text from
        → MatchResult from (λ library. to ≡ Ok library) (λ e. IsErrAnd to (P e)) → ((e : TextError) (code : HResult) → P e code → code ≡ text_code e)
        → IsLibraryOf body to
    text_told P (Ok library) to is made coded = rw made (record { text = text; lies = lies; stands = is })
    text_told P (Err e) (Ok library) is made coded = absurd made
    text_told P (Err e) (Err code) is made coded = rw (coded e code made) (text_unread e is)

-- ---- what becomes of it
module _ (state : State) (body : List ℕ) (reply : ReplyValue) where
  pub loss_refused : (library : TreeValue) (lost : Incompatibility) → AsksLibrary body library → first_lost library state.library ≡ Some lost
      → RefusesLoss (tag_at body) lost reply
      → Replacement state body reply state × (is_done reply ≡ false)
  loss_refused library lost asks is (inl told) = (
    inl (record {
      library = library;
      asked = asks;
      answers = told ∙ ap (λ (l : Option Incompatibility). replacement_reply (tag_at body) l) (sym is);
      leaves = ap (λ (l : Option Incompatibility). after_replacement state library l) (sym is);
    }),
    rw told refl,
  )
  loss_refused library lost asks is (inr told) =
      (inr (inr (record { may = has_text body asks.text asks.lies (asks.stands.0, asks.stands.1.stands.short); answers = told; leaves = refl })), rw told refl)

  pub replaces : (library : TreeValue) (new : State) → IsNextLibrary state body library → reply ≡ refusal (tag_at body) s_ok None
      → new ≡ record state { library = library } → Replacement state body reply new
  replaces library new next told leaves = inl (record {
    library = library;
    asked = next.asked;
    answers = told ∙ ap (λ (l : Option Incompatibility). replacement_reply (tag_at body) l) (sym next.keeps);
    leaves = leaves ∙ ap (λ (l : Option Incompatibility). after_replacement state library l) (sym next.keeps);
  })
