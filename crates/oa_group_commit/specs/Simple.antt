-- The simplest requests: groups of events, each of which is done or refused, and other libraries. (This project's
-- choice.)
use Rattle.std.proofs.Common.{◌≡◌, ◌⊎◌, inl, inr, ◌==◌, Bool, true, false, true≢false, List, [], ◌∷◌, ℕ, drop, refl}
use Rattle.std.proofs.Common.{sym, ap, ◌∙◌, subst}
use Rattle.oa_journal.specs.promise.Bank.{Replays}
use Rattle.oa_table.specs.promise.Tables.{TableValue}
use Rattle.oa_group_commit.specs.promise.Groups.{Exchange, StateMachine}

pub record Kept : Type 0 where
  pub bank : ℕ
  pub library : List ℕ
  pub table : TableValue

-- The body asks for another library: no event begins with 0.
abbrev pub asks_library : List ℕ → Bool
asks_library [] = false
asks_library (b ∷ bytes) = b == 0

-- its events turn the old table into the new one
pub record Changes (asked : Exchange Bool) (old new : Kept) : Type 0 where
  pub kind : asks_library asked.body ≡ false
  pub event : asked.event ≡ asked.body
  pub makes : Replays asked.body old.table new.table
  pub same : new.library ≡ old.library
  pub same_bank : new.bank ≡ old.bank
  pub told : asked.reply ≡ true

-- its library replaces the old one, and the table stays
pub record ReplacesSimply (asked : Exchange Bool) (old new : Kept) : Type 0 where
  pub kind : asks_library asked.body ≡ true
  pub event : asked.event ≡ []
  pub is : new ≡ record { bank = old.bank; library = drop 1 asked.body; table = old.table }
  pub told : asked.reply ≡ true

-- it is refused
pub record RefusesSimply (asked : Exchange Bool) (old new : Kept) : Type 0 where
  pub event : asked.event ≡ []
  pub same : new ≡ old
  pub told : asked.reply ≡ false

pub no_event : (table : TableValue) → Replays [] table table
no_event table = record { events = []; are = record { are = tt; whole = refl }; makes = refl }

nothing : (asked : Exchange Bool) (old new : TableValue) → asked.event ≡ [] → new ≡ old → Replays asked.event old new
nothing asked old new event same =
    let none = subst (λ (t : TableValue). Replays [] old t) (sym same) (no_event old) in
    subst (λ (l : List ℕ). Replays l old new) (sym event) none

abbrev pub IsSimple : Exchange Bool → Kept → Kept → Type 0
IsSimple asked old new = Changes asked old new ⊎ (ReplacesSimply asked old new ⊎ RefusesSimply asked old new)

pub replays : (asked : Exchange Bool) (old new : Kept) → IsSimple asked old new
    → Replays asked.event old.table new.table
replays asked old new (inl one) = subst (λ (l : List ℕ). Replays l old.table new.table) (sym one.event) one.makes
replays asked old new (inr (inl one)) = nothing asked old.table new.table one.event (ap (λ (k : Kept). k.table) one.is)
replays asked old new (inr (inr one)) =
    nothing asked old.table new.table one.event (ap (λ (k : Kept). k.table) one.same)

pub leaves : (asked : Exchange Bool) (old new : Kept) → IsSimple asked old new → asked.reply ≡ false → new ≡ old
leaves asked old new (inl one) is = absurd (true≢false (sym one.told ∙ is))
leaves asked old new (inr (inl one)) is = absurd (true≢false (sym one.told ∙ is))
leaves asked old new (inr (inr one)) is = one.same

pub stays : (asked : Exchange Bool) (old new : Kept) → IsSimple asked old new → asks_library asked.body ≡ false
    → new.library ≡ old.library
stays asked old new (inl one) plain = one.same
stays asked old new (inr (inl one)) plain = absurd (true≢false (sym one.kind ∙ plain))
stays asked old new (inr (inr one)) plain = ap (λ (k : Kept). k.library) one.same

pub sized : (asked : Exchange Bool) (old new : Kept) → IsSimple asked old new → new.bank ≡ old.bank
sized asked old new (inl one) = one.same_bank
sized asked old new (inr (inl one)) = ap (λ (k : Kept). k.bank) one.is
sized asked old new (inr (inr one)) = ap (λ (k : Kept). k.bank) one.same

-- every reply to a fault is a refusal
abbrev pub toy_machine : StateMachine Kept Bool
toy_machine = record {
  bank = λ kept. kept.bank;
  text = λ kept. kept.library;
  held = λ kept. kept.table;
  barrier = asks_library;
  Turn = IsSimple;
  faulted = λ body. false;
  failed = λ body. false;
  aborted = λ reply. false;
  is_done = λ reply. reply;
  opened = λ kept. kept;
  reopens = λ kept. (refl, refl, refl);
  sized = sized;
  stays = stays;
  replays = replays;
  tells = λ asked old new turn. refl;
  leaves = leaves;
}
