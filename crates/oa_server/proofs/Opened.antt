-- What an opening answers, where a stop has left one of two states.
use Rattle.std.proofs.Common.{true, ◌≤◌, ◌≡◌, ◌≢◌, ◌⊎◌, ⊎_elim, ℕ, List, Some, length, inl, inr, refl, sym, ◌∙◌, subst, arith}
use Rattle.oa_compat.proofs.Kept.{unlocked_fits}
use Rattle.oa_compat.specs.promise.Fits.{fits}
use Rattle.oa_group_commit.specs.promise.Groups.{HoldsState}
use Rattle.oa_printer.specs.promise.Canonical.{canonical}
use Rattle.oa_idl.specs.promise.Trees.{TreeValue}
use Rattle.oa_image.proofs.TablesWithImages.{same_table}
use Rattle.oa_journal.specs.promise.Bank.{HasHeader, HasLibrary, from_place, body_bytes, format_of}
use Rattle.oa_journal.proofs.Banks.{bank_header}
use Rattle.oa_journal.proofs.Damages.{bank_library, one_library}
use Rattle.oa_journal.proofs.Unique.{one_head}
use Rattle.oa_journal.specs.declared.shape.BankFormat.{BankFormat}
use Rattle.oa_journal.specs.declared.shape.BankFormat.TheVariants.{One, Two}
use Rattle.oa_store.specs.promise.Faults.{SpeaksOfContents, RefusalSays}
use Rattle.oa_store.proofs.OneStore.{one_store}
use Rattle.oa_store.proofs.Opened.{of_wanted}
use Rattle.oa_store.specs.promise.Stores.{IsFormatted, IsStoreAt, IsStoreIn, body_place, head_place}
use Rattle.oa_store.specs.Stores.{IsNewStore}
use Rattle.oa_store.specs.declared.fault.OpenFault.{OpenFault}
use Rattle.oa_store.specs.declared.fault.OpenFault.TheVariants.{NotAStore, OldFormat, LibraryDiffers, Damaged, Device, Memory}
use Rattle.oa_table.specs.promise.Tables.{TableValue}
use Rattle.oa_typelib.specs.promise.Checked.{IsChecked}
use Rattle.oa_turn.specs.promise.Beginnings.{CanBegin, CanServe}
use Rattle.oa_server.specs.promise.ServerMachine.{FindsState, FindsOneOf, HoldsOther, RefusesOneOf, server_machine}
use Rattle.oa_server.specs.promise.ServerMachine.{text_of_library}
use Rattle.oa_turn.specs.promise.Events.{held_of}
use Rattle.oa_decision.specs.promise.States.{State}
use Rattle.oa_server.proofs.FoundIsKept.{one_size}

-- an open store is one in format 2
pub is_two : (shape : BankFormat) → format_of shape ≡ 2 → shape ≡ Two (body_bytes shape)
is_two One is = absurd cc
is_two (Two size) is = refl

-- its closed gate stands on the disk
pub gate_within : (shape : BankFormat) (chosen gate : ℕ) (text contents : List ℕ) (table : TableValue) → format_of shape ≡ 2
    → IsStoreAt shape chosen gate text table contents → gate ≤ length contents
gate_within One chosen gate text contents table is store = absurd cc
gate_within (Two size) chosen gate text contents table is store =
    let inside = store.bank.parts.inside in
    let room = store.room in
    omega (arith, inside, room)

-- what the contents are a store of is what they hold of a state
found_state : (contents : List ℕ) (bank : ℕ) (library : TreeValue) (table : TableValue) (state : State)
    → IsStoreIn (Two bank) contents (canonical library) table → HoldsState server_machine state contents
    → FindsState bank library table state
found_state contents bank library table state store holds =
    let same = one_store contents (canonical library) (text_of_library state) table (held_of state) (Two bank, store) (Two state.bank, holds) in
    record { bank_is = one_size bank state.bank same.shape_same; text = same.library_same; table_is = same.table_same }

pub finds_one : (image : List ℕ → Type 0) (contents : List ℕ) → image contents → (bank : ℕ) (library : TreeValue) (table : TableValue)
    → IsStoreIn (Two bank) contents (canonical library) table → FindsOneOf image bank library table
finds_one image contents is bank library table store one two each = ⊎_elim
    (λ first. inl (found_state contents bank library table one store first))
    (λ second. inr (found_state contents bank library table two store second))
    (each contents is)

-- ---- the contents hold another library
-- a store's bank is the one that the selector names
its_bank : (shape : BankFormat) (contents : List ℕ) (chosen number gate : ℕ) (text : List ℕ) (table : TableValue) → IsFormatted chosen contents
    → IsStoreAt shape number gate text table contents → IsStoreAt shape chosen gate text table contents
its_bank shape contents chosen number gate text table head is = subst (λ (k : ℕ). IsStoreAt shape k gate text table contents)
    (sym is.head.selected ∙ head.selected) is

-- a head that a store's bank has, in whichever format, is that of the store
its_shape : (shape other : BankFormat) (contents : List ℕ) (chosen gate l s : ℕ) (text : List ℕ) (table : TableValue)
    → HasHeader other (from_place (head_place chosen) contents) l s → IsStoreAt shape chosen gate text table contents
    → shape ≡ other
its_shape shape other contents chosen gate l s text table has is =
    let head = from_place (head_place chosen) contents in
    (one_head head shape (length text) _ other l s (bank_header shape head (from_place (body_place shape chosen) contents) text table gate is.bank)
    has).shape_same

module _ (contents : List ℕ) (size : ℕ) (long : length contents ≡ size) (text : List ℕ) (bank : ℕ) (other : List ℕ) (table : TableValue)
    (is : IsStoreIn (Two bank) contents other table) where
  -- a library with which the bank begins is its library
  begins_with : (chosen : ℕ) (shape : BankFormat) → IsFormatted chosen contents → HasLibrary shape (from_place (head_place chosen) contents)
      (from_place (body_place shape chosen) contents) text → text ≡ other
  begins_with chosen shape head has =
      let store = its_bank (Two bank) contents chosen is.0 is.1 other table head is.2 in
      let same = its_shape (Two bank) shape contents chosen is.1 (length text) has.snapshot other table has.has store in
      let here = subst (λ (s : BankFormat). IsStoreAt s chosen is.1 other table contents) same store in
      let first = from_place (head_place chosen) contents in
      let body = from_place (body_place shape chosen) contents in
      one_library shape first body text other has (bank_library shape first body other table is.1 here.bank)

  -- what is refused is refused for its library, or it is a store of the library that is wanted
  pub told_of : (fault : OpenFault) → SpeaksOfContents fault → RefusalSays (Some text) size contents fault → (fault ≡ LibraryDiffers) ⊎ (text ≡ other)
  told_of NotAStore r says = ⊎_elim (λ lt. absurd (omega (arith, lt, long, is.2.head.size))) (λ none. absurd (none is.2.head.formatted)) says
  told_of OldFormat r says =
      let store = its_bank (Two bank) contents says.chosen is.0 is.1 other table says.head is.2 in
      let shape : Two bank ≡ One = its_shape (Two bank) One contents says.chosen is.1 says.library says.snapshot other table says.has.has store in
      absurd (cc shape)
  told_of LibraryDiffers r says = inl refl
  told_of (Damaged place) r says = ⊎_elim
      (λ none.
      let store = its_bank (Two bank) contents none.chosen is.0 is.1 other table none.head is.2 in
      absurd (none.none (Two bank) (length other) _
      (record {
        room = store.room;
        has = bank_header (Two bank) (from_place (head_place none.chosen) contents)
            (from_place (body_place (Two bank) none.chosen) contents) other table is.1 store.bank;
      })))
      (λ rest.
      let begins = of_wanted rest.shape (from_place (head_place rest.chosen) contents) (from_place (body_place rest.shape rest.chosen) contents) text
      rest.begins in
      inr (begins_with rest.chosen rest.shape rest.head begins))
      says
  told_of (Device fault) r says = absurd r
  told_of Memory r says = absurd r

-- the contents have another library than the one that was found in them
differs_from : (library : TreeValue) (state : State) → canonical state.library ≢ canonical library → canonical library ≡ canonical state.library → ⊥
differs_from library state never same = never (sym same)

-- a refusal of the store's
pub differs_told : (contents : List ℕ) (size : ℕ) → length contents ≡ size → (library : TreeValue) (fault : OpenFault)
    → RefusalSays (Some (canonical library)) size contents fault → (state : State) → HoldsOther contents library state → SpeaksOfContents fault
    → fault ≡ LibraryDiffers
differs_told contents size long library fault says state other r = ⊎_elim (λ is. is) (λ same. absurd (differs_from library state other.1 same))
    (told_of contents size long (canonical library) state.bank (text_of_library state) (held_of state) other.0 fault r says)

-- a table that no server of the library can begin with is one of it
pub differs_unfit : (contents : List ℕ) (library : TreeValue) (bank : ℕ) (table : TableValue) → IsStoreIn (Two bank) contents (canonical library) table
    → (state : State) → HoldsOther contents library state → ⊥
differs_unfit contents library bank table store state other =
    differs_from library state other.1 (found_state contents bank library table state store other.0).text

-- ---- a server can begin with what the contents hold
module _ (same_library : (a b : TreeValue) → IsChecked a → IsChecked b → canonical a ≡ canonical b → a ≡ b) (library : TreeValue)
    (checked : IsChecked library) where
  serves : (state : State) → CanBegin state → canonical library ≡ canonical state.library → CanServe state.bank library (held_of state)
  serves state begins text =
      let same : state.library ≡ library = same_library state.library library begins.checked checked (sym text) in
      record {
        fit = unlocked_fits library state.table ∙ subst (λ (l : TreeValue). fits l state.table ≡ true) same begins.serves.fit;
        small = let image = same_table state.table in rw image begins.serves.small;
      }

  pub can_begin : (contents : List ℕ) (bank : ℕ) (table : TableValue) → IsStoreIn (Two bank) contents (canonical library) table → (state : State)
      → CanBegin state → HoldsState server_machine state contents → CanServe bank library table
  can_begin contents bank table store state begins holds =
      let found = found_state contents bank library table state store holds in
      rw (found.bank_is, found.table_is) (serves state begins found.text)

  pub refuses_unfit : (image : List ℕ → Type 0) (contents : List ℕ) → image contents → (bank : ℕ) (table : TableValue)
      → IsStoreIn (Two bank) contents (canonical library) table → (CanServe bank library table → ⊥) → (fault : OpenFault)
      → RefusesOneOf image contents library fault
  refuses_unfit image contents is bank table store cannot fault one two each first second = ⊎_elim
      (λ holds. absurd (cannot (can_begin contents bank table store one first holds)))
      (λ holds. absurd (cannot (can_begin contents bank table store two second holds)))
      (each contents is)

  module _ (contents : List ℕ) (size : ℕ) (long : length contents ≡ size) (fault : OpenFault) (r : SpeaksOfContents fault)
      (says : RefusalSays (Some (canonical library)) size contents fault)
      (none : (table : TableValue) → IsNewStore contents (canonical library) table → ⊥) where
    refuses_state : (state : State) → HoldsState server_machine state contents → (fault ≡ LibraryDiffers) × HoldsOther contents library state
    refuses_state state holds =
        let never : canonical state.library ≡ canonical library → ⊥ =
        λ same. none (held_of state) (state.bank, subst (λ (l : List ℕ). IsStoreIn (Two state.bank) contents l (held_of state)) same holds) in (
          ⊎_elim (λ is. is) (λ same. absurd (never (sym same)))
              (told_of contents size long (canonical library) state.bank (text_of_library state) (held_of state) holds fault r says),
          (holds, never),
        )

    pub refuses_one : (image : List ℕ → Type 0) → image contents → RefusesOneOf image contents library fault
    refuses_one image is one two each first second = ⊎_elim
        (λ holds. let why = refuses_state one holds in (why.0, inl why.1))
        (λ holds. let why = refuses_state two holds in (why.0, inr why.1))
        (each contents is)

-- the text is the library's canonical one
module _ (library : TreeValue) (text : List ℕ) (contents : List ℕ) (is : text ≡ canonical library) where
  pub of_text : (shape : BankFormat) (table : TableValue) → IsStoreIn shape contents text table → IsStoreIn shape contents (canonical library) table
  of_text shape table store = subst (λ t. IsStoreIn shape contents t table) is store

  pub of_library : (table : TableValue) → IsNewStore contents (canonical library) table → IsNewStore contents text table
  of_library table store = subst (λ t. IsNewStore contents t table) (sym is) store

  pub says_library : (size : ℕ) (fault : OpenFault) → RefusalSays (Some text) size contents fault → RefusalSays (Some (canonical library)) size contents fault
  says_library size fault says = subst (λ t. RefusalSays (Some t) size contents fault) is says
