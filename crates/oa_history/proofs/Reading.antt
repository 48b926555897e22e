-- What a store shows of a state that its disk holds.
use Rattle.std.proofs.Common.{Err, ◌≡◌, ⊎_elim, inl, inr, ℕ, Bool, true, false, List, [], ◌∷◌, Option, None, Some, length, map, refl, sym, ◌∙◌, ap, subst}
use Rattle.std.proofs.Common.{arith}
use Rattle.std.specs.List.{list_any}
use Rattle.std.specs.Prelude.{if◌then◌else◌}
use Rattle.std.specs.Str.{IsUtf8}
use Rattle.oa_printer.specs.promise.Canonical.{canonical}
use Rattle.oa_idl.specs.promise.IsTree.{IsTree}
use Rattle.oa_printer.specs.promise.Marked.{mark_first, marked, marked_entries, marked_item}
use Rattle.oa_idl.specs.promise.Trees.{TreeValue}
use Rattle.oa_idl.specs.declared.items.Item.{Item}
use Rattle.oa_idl.specs.declared.items.Item.TheVariants.{Interface, Coclass}
use Rattle.oa_idl.specs.declared.parts.Entry.{Entry}
use Rattle.oa_compat.specs.LibraryTexts.{IsTextOf}
use Rattle.oa_compat.specs.promise.LibraryTexts.{StandsFor}
use Rattle.oa_compat.specs.declared.library_text.TextError.{TextError}
use Rattle.oa_compat.specs.declared.library_text.TextError.TheVariants as texts
use Rattle.oa_journal.specs.promise.Bank.{HasHeader, from_place}
use Rattle.oa_journal.proofs.Banks.{bank_header}
use Rattle.oa_journal.specs.promise.Damages.{IsDamagedBody}
use Rattle.oa_journal.proofs.Damages.{bank_library, not_damaged, one_library}
use Rattle.oa_journal.proofs.Unique.{one_head}
use Rattle.oa_journal.specs.declared.shape.BankFormat.{BankFormat}
use Rattle.oa_journal.specs.declared.shape.BankFormat.TheVariants.{One, Two}
use Rattle.oa_store.specs.promise.Faults.{IsDamaged, SpeaksOfContents, RefusalSays}
use Rattle.oa_store.specs.promise.Stores.{IsForeign, IsFormatted, IsStoreAt, IsStoreIn, body_place, head_place}
use Rattle.oa_store.specs.declared.fault.OpenFault.{OpenFault}
use Rattle.oa_store.specs.declared.fault.OpenFault.TheVariants.{NotAStore, OldFormat, LibraryDiffers, Damaged, Device, Memory}
use Rattle.oa_table.specs.promise.Tables.{TableValue}
use Rattle.oa_typelib.specs.promise.Checked.{IsChecked}
use Rattle.oa_sema.specs.promise.IsLibrary.{IsLibrary}

-- ---- a store is not refused by whoever wants any library

-- a body that is damaged stands behind a head
header_of : (shape : BankFormat) (head body : ℕ → ℕ) (offset : ℕ) → IsDamagedBody shape head body offset → (l : ℕ) × (s : ℕ) × HasHeader shape head l s
header_of shape head body offset (inl snapshot) = (snapshot.0, snapshot.1, snapshot.2)
header_of shape head body offset (inr group) = (group.0, group.1, group.3.has)

never_both : (bank : ℕ) → Two bank ≡ One → ⊥
never_both bank e = cc e

module _ (size : ℕ) (contents : List ℕ) (shape : BankFormat) (text : List ℕ) (table : TableValue) (long : length contents ≡ size)
    (is : IsStoreIn shape contents text table) where
  -- the store's bank is the one that the selector names
  its_bank : (chosen : ℕ) → IsFormatted chosen contents → IsStoreAt shape chosen is.1 text table contents
  its_bank chosen head = subst (λ (k : ℕ). IsStoreAt shape k is.1 text table contents) (sym is.2.head.selected ∙ head.selected) is.2

  -- a head that the bank has, in whichever format, is that of the store
  its_shape : (chosen : ℕ) (other : BankFormat) (l s : ℕ) → IsStoreAt shape chosen is.1 text table contents
      → HasHeader other (from_place (head_place chosen) contents) l s → shape ≡ other
  its_shape chosen other l s store has =
      let head = from_place (head_place chosen) contents in
      (one_head head shape (length text) _ other l s (bank_header shape head (from_place (body_place shape chosen) contents) text table is.1 store.bank)
      has).shape_same

  -- it is damaged for nobody
  never_damaged : (wanted : Option (List ℕ)) (place : ℕ) → IsDamaged wanted contents place → ⊥
  never_damaged wanted place says = ⊎_elim
      (λ none.
      let store = its_bank none.chosen none.head in
      none.none shape (length text) _ (record {
        room = store.room;
        has = bank_header shape (from_place (head_place none.chosen) contents)
            (from_place (body_place shape none.chosen) contents) text table is.1 store.bank;
      }))
      (λ rest.
      let store = its_bank rest.chosen rest.head in
      let head = from_place (head_place rest.chosen) contents in
      let has = header_of rest.shape head (from_place (body_place rest.shape rest.chosen) contents) rest.offset rest.damaged in
      let here = subst (λ (s : BankFormat). IsStoreAt s rest.chosen is.1 text table contents) (its_shape rest.chosen rest.shape has.0 has.1 store has.2)
      store in
      not_damaged rest.shape head (from_place (body_place rest.shape rest.chosen) contents) rest.offset text table is.1 rest.damaged here.bank)
      says

  never_foreign : IsForeign size contents → ⊥
  never_foreign says = ⊎_elim (λ lt. absurd (omega (arith, lt, long, is.2.head.size))) (λ none. none is.2.head.formatted) says

  pub shown_to_all : (e : OpenFault) → SpeaksOfContents e → RefusalSays None size contents e → ⊥
  shown_to_all NotAStore r says = never_foreign says
  shown_to_all OldFormat r says = says
  shown_to_all LibraryDiffers r says = says
  shown_to_all (Damaged place) r says = never_damaged None place says
  shown_to_all (Device fault) r says = absurd r
  shown_to_all Memory r says = absurd r

  -- nor is it refused by whoever wants its own one, where it is in format 2
  pub opened_by_its_own : (bank : ℕ) → shape ≡ Two bank → (e : OpenFault) → SpeaksOfContents e → RefusalSays (Some text) size contents e → ⊥
  opened_by_its_own bank new NotAStore r says = never_foreign says
  opened_by_its_own bank new OldFormat r says =
      let old : shape ≡ One = its_shape says.chosen One says.library says.snapshot (its_bank says.chosen says.head) says.has.has in
      never_both bank (sym new ∙ old)
  opened_by_its_own bank new LibraryDiffers r says =
      let store = its_bank says.chosen says.head in
      let other = Two says.size in
      let here = subst (λ (s : BankFormat). IsStoreAt s says.chosen is.1 text table contents)
      (its_shape says.chosen other (length says.other) says.has.snapshot store says.has.has) store in
      let head = from_place (head_place says.chosen) contents in
      let body = from_place (body_place other says.chosen) contents in
      says.differs (one_library other head body says.other text says.has (bank_library other head body text table is.1 here.bank))
  opened_by_its_own bank new (Damaged place) r says = never_damaged (Some text) place says
  opened_by_its_own bank new (Device fault) r says = absurd r
  opened_by_its_own bank new Memory r says = absurd r

-- ---- the library that is read from the canonical text of one is that one

first_again : (es : List Entry) → marked_entries (mark_first es) ≡ mark_first es
first_again [] = refl
first_again (e ∷ es) = refl

entries_again : (es : List Entry) → marked_entries (marked_entries es) ≡ marked_entries es
entries_again es = by (list_any (λ (e : Entry). e.is_default) es) refl
  where
    by : (b : Bool) → list_any (λ (e : Entry). e.is_default) es ≡ b → marked_entries (if b then es else mark_first es) ≡ (if b then es else mark_first es)
    by true is = rw is refl
    by false is = first_again es

item_again : (x : Item) → marked_item (marked_item x) ≡ marked_item x
item_again (Interface i) = refl
item_again (Coclass c) = ap (λ (es : List Entry). Coclass (record { guid = c.guid; name = c.name; entries = es })) (entries_again c.entries)

items_again : (xs : List Item) → map marked_item (map marked_item xs) ≡ map marked_item xs
items_again [] = refl
items_again (x ∷ xs) = rw (item_again x, items_again xs) refl

pub marked_again : (t : TreeValue) → marked (marked t) ≡ marked t
marked_again t = ap (λ (xs : List Item). record { guid = t.guid; version = t.version; name = t.name; items = xs }) (items_again t.items)

-- a library's defaults are marked
pub library_marked : (t : TreeValue) → IsChecked t → marked t ≡ t
library_marked t checked = let is = checked.1 in ap marked is.says ∙ marked_again is.tree ∙ sym is.says

module _ (one_tree : (text : List ℕ) (s t : TreeValue) → IsTree text s → IsTree text t → s ≡ t)
    (read : (t : TreeValue) → IsChecked t → IsTree (canonical t) t) where
  pub library_again : (text : List ℕ) (library t : TreeValue) → IsChecked t → text ≡ canonical t → IsLibrary text library → library ≡ t
  library_again text library t checked same is =
      let tree : is.tree ≡ t = one_tree (canonical t) is.tree t (subst (λ (l : List ℕ). IsTree l is.tree) same is.stands) (read t checked) in
      is.says ∙ ap marked tree ∙ library_marked t checked

-- the text of a library was not read
pub unread : (text : List ℕ) (library : TreeValue) (fault : TextError) → IsUtf8 (canonical library) → IsLibrary (canonical library) library
    → text ≡ canonical library → IsTextOf text (Err fault) → fault ≡ texts.Memory
unread text library texts.NoLibrary utf8 is same none = absurd (none library (subst (λ (l : List ℕ). StandsFor l library) (sym same) (utf8, is)))
unread text library texts.Memory utf8 is same none = refl
