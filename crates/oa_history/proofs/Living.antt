-- One step more, and what is told at last.
use Rattle.std.proofs.Common.{◌≡◌, ℕ, ◌+◌, ◌<◌, List, [], ◌∷◌, ◌++◌, take, length, get_or, refl, sym, ◌∙◌, ap, subst}
use Rattle.std.proofs.lemmas.List.{take_more}
use Rattle.oa_group_commit.specs.promise.Groups.{HoldsState}
use Rattle.oa_printer.specs.promise.Canonical.{canonical}
use Rattle.oa_journal.specs.declared.shape.BankFormat.TheVariants.{Two}
use Rattle.oa_turn.specs.promise.Events.{held_of}
use Rattle.oa_server.specs.promise.ServerMachine.{opened, server_machine}
use Rattle.oa_decision.specs.promise.States.{State}
use Rattle.oa_store.proofs.OneStore.{one_store}
use Rattle.oa_store.specs.promise.Stores.{IsStore}
use Rattle.oa_table.specs.promise.Tables.{TableValue}
use Rattle.oa_history.specs.promise.CrashHistories.{HistorySteps, IsStepped}
use Rattle.oa_history.specs.declared.session.Transcript.{Transcript}
use Rattle.oa_history.specs.declared.session.Step.{Step}

lives_push : (found : List ℕ) (before : State) (steps : List Step) (heard : List Transcript) (left : List ℕ) (mid : State) (step : Step) (told : Transcript)
    (image : List ℕ) (after : State)
    → HistorySteps found before steps heard left mid → IsStepped step told left mid image after
    → HistorySteps found before (steps ++ step ∷ []) (heard ++ told ∷ []) image after
lives_push found before [] [] left mid step told image after same one = (
  image,
  after,
  subst (λ (s : State). IsStepped step told found s image after) (sym same.1) (subst (λ (l : List ℕ). IsStepped step told l mid image after) (sym same.0) one),
  (refl, refl),
)
lives_push found before [] (h ∷ hs) left mid step told image after none one = absurd none
lives_push found before (s ∷ ss) [] left mid step told image after none one = absurd none
lives_push found before (s ∷ ss) (h ∷ hs) left mid step told image after all one =
    (all.0, all.1, all.2, lives_push all.0 all.1 ss hs left mid step told image after all.3 one)

-- the first i + 1 of them
pub lives_more : (found : List ℕ) (before : State) (steps : List Step) (i : ℕ) (heard all : List Transcript) (left : List ℕ) (mid : State) (step : Step)
    (told : Transcript) (image : List ℕ) (after : State)
    → i < length steps → get_or steps i step ≡ step → all ≡ heard ++ told ∷ []
    → HistorySteps found before (take i steps) heard left mid → IsStepped step told left mid image after
    → HistorySteps found before (take (i + 1) steps) all image after
lives_more found before steps i heard all left mid step told image after within is all_are lives one =
    let here : take (i + 1) steps ≡ take i steps ++ step ∷ [] = rw (take_more steps i step within, is) refl in
    subst (λ (hs : List Transcript). HistorySteps found before (take (i + 1) steps) hs image after) (sym all_are)
    (subst (λ (ss : List Step). HistorySteps found before ss (heard ++ told ∷ []) image after) (sym here)
    (lives_push found before (take i steps) heard left mid step told image after lives one))

-- what is shown of a store is what it holds of the state
pub shown_library : (image text : List ℕ) (table : TableValue) (state : State) → IsStore image text table → HoldsState server_machine state image
    → text ≡ canonical state.library
shown_library image text table state shown holds =
    (one_store image text (canonical state.library) table (held_of state) shown (Two state.bank, holds)).library_same

pub shown_table : (image text : List ℕ) (table : TableValue) (state : State) → opened state ≡ state → IsStore image text table
    → HoldsState server_machine state image → table ≡ state.table
shown_table image text table state unlocked shown holds =
    (one_store image text (canonical state.library) table (held_of state) shown (Two state.bank, holds)).table_same ∙ ap (λ (s : State). s.table) unlocked

-- and where it was not opened again, without its locks
pub shown_held : (image text : List ℕ) (table : TableValue) (state : State) → IsStore image text table → HoldsState server_machine state image
    → table ≡ held_of state
shown_held image text table state shown holds = (one_store image text (canonical state.library) table (held_of state) shown (Two state.bank, holds)).table_same
