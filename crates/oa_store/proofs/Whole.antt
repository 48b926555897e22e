-- What is refused of a disk that has a whole store.
use Rattle.std.proofs.Common.{◌≡◌, ◌⊎◌, ⊎_elim, ◌+◌, ◌<◌, ◌≤◌, ℕ, List, None, length, arith, ap, subst}
use Rattle.oa_image.specs.promise.Tables.{table_image}
use Rattle.oa_journal.specs.declared.shape.BankFormat.TheVariants.{One, Two}
use Rattle.oa_store.specs.declared.fault.UpgradeFault.TheVariants as upgrades
use Rattle.oa_store.proofs.OneStore.{one_store}
use Rattle.oa_table.specs.promise.Tables.{TableValue}
use Rattle.oa_journal.specs.declared.shape.BankFormat.{BankFormat}
use Rattle.oa_journal.proofs.Banks.{bank_header}
use Rattle.oa_journal.proofs.Damages.{not_damaged}
use Rattle.oa_journal.specs.promise.Bank.{from_place}
use Rattle.oa_journal.specs.promise.Damages.{IsDamagedBody}
use Rattle.oa_store.specs.declared.fault.OpenFault.{OpenFault}
use Rattle.oa_store.specs.declared.fault.OpenFault.TheVariants.{NotAStore, OldFormat, LibraryDiffers, Damaged, Device, Memory}
use Rattle.oa_store.specs.promise.Faults.{CanBeBrought, RefusalSays, SpeaksOfContents}
use Rattle.oa_store.specs.Faults.{UpgradeSays}
use Rattle.oa_store.specs.promise.Stores.{body_place, head_place, IsStore, IsStoreAt}
use Rattle.oa_store.proofs.Opened.{its_bank, its_shape}

-- a bank that is damaged in its body has a head of its format, so it is none of a store's
spoilt_is_none : (shape other : BankFormat) (contents : List ℕ) (chosen gate place : ℕ) (library : List ℕ) (table : TableValue)
    → IsStoreAt shape chosen gate library table contents
    → IsDamagedBody other (from_place (head_place chosen) contents) (from_place (body_place other chosen) contents) place → ⊥
spoilt_is_none shape other contents chosen gate place library table store damaged =
    let head = from_place (head_place chosen) contents in
    let body = from_place (body_place other chosen) contents in
    let same : shape ≡ other = ⊎_elim
    (λ image. its_shape shape other contents chosen gate image.0 image.1 library table image.2 store)
    (λ rest. its_shape shape other contents chosen gate rest.0 rest.1 library table rest.3.has store)
    damaged in
    let here = subst (λ (s : BankFormat). IsStoreAt s chosen gate library table contents) same store in
    not_damaged other head body place library table gate damaged here.bank

pub whole_is_not_refused : (library : List ℕ) (table : TableValue) (size : ℕ) (contents : List ℕ) (e : OpenFault) → length contents ≡ size
    → IsStore contents library table → SpeaksOfContents e → RefusalSays None size contents e → ⊥
whole_is_not_refused library table size contents NotAStore long is r says =
    ⊎_elim (λ lt. absurd (omega (arith, lt, long, is.1.2.head.size))) (λ none. none is.1.2.head.formatted) says
whole_is_not_refused library table size contents OldFormat long is r says = says
whole_is_not_refused library table size contents LibraryDiffers long is r says = says
whole_is_not_refused library table size contents (Damaged place) long is r says = ⊎_elim
    (λ none.
    let store = its_bank is.0 contents none.chosen is.1.0 is.1.1 library table none.head is.1.2 in
    none.none is.0 (length library) _ (record {
      room = store.room;
      has = bank_header is.0 (from_place (head_place none.chosen) contents) (from_place (body_place is.0 none.chosen) contents) library table
          is.1.1 store.bank;
    }))
    (λ rest.
    let store = its_bank is.0 contents rest.chosen is.1.0 is.1.1 library table rest.head is.1.2 in
    spoilt_is_none is.0 rest.shape contents rest.chosen is.1.1 rest.offset library table store rest.damaged)
    says
whole_is_not_refused library table size contents (Device fault) long is r says = absurd r
whole_is_not_refused library table size contents Memory long is r says = absurd r

-- a store of format 1 that such banks take is not refused by an upgrade as something else
pub brought_none : (bank size : ℕ) (contents : List ℕ) → length contents ≡ size → CanBeBrought bank contents
    → UpgradeSays bank size contents upgrades.NotAStore → ⊥
brought_none bank size contents long was says =
    ⊎_elim (λ lt. absurd (omega (arith, lt, long, was.store.2.head.size))) (λ none. none was.store.2.head.formatted) says

pub brought_new : (bank size : ℕ) (contents : List ℕ) → CanBeBrought bank contents → UpgradeSays bank size contents upgrades.AlreadyNew → ⊥
brought_new bank size contents was says =
    let store = its_bank One contents says.chosen was.store.0 was.store.1 was.library was.table says.head was.store.2 in
    let shape : One ≡ Two says.size = its_shape One (Two says.size) contents says.chosen was.store.1 says.library says.snapshot was.library was.table
    says.has.has store in
    absurd (cc shape)

pub brought_damaged : (bank size place : ℕ) (contents : List ℕ) → CanBeBrought bank contents
    → UpgradeSays bank size contents (upgrades.Damaged place) → ⊥
brought_damaged bank size place contents was says = ⊎_elim
    (λ large.
    let same = one_store contents was.library large.1.library was.table large.1.table (One, was.store) (One, large.1.store) in
    ⊎_elim
    (λ lt. absurd (omega (arith, lt, was.short, ap (λ (l : List ℕ). length l) same.library_same)))
    (λ lt. absurd (omega (arith, lt, was.fits, ap (λ (t : TableValue). length (table_image t)) same.table_same)))
    large.1.large)
    (λ rest. ⊎_elim
    (λ none.
    let store = its_bank One contents none.chosen was.store.0 was.store.1 was.library was.table none.head was.store.2 in
    none.none One (length was.library) _ (record {
      room = store.room;
      has = bank_header One (from_place (head_place none.chosen) contents) (from_place (body_place One none.chosen) contents) was.library
          was.table was.store.1 store.bank;
    }))
    (λ spoilt.
    let store = its_bank One contents spoilt.chosen was.store.0 was.store.1 was.library was.table spoilt.head was.store.2 in
    spoilt_is_none One spoilt.shape contents spoilt.chosen was.store.1 spoilt.offset was.library was.table store spoilt.damaged)
    rest)
    says
