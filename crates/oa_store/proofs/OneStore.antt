-- An image is a store of one format, one library and one table.
use Rattle.std.proofs.Common.{◌≡◌, ◌∙◌, ℕ, List, sym, subst}
use Rattle.oa_table.specs.promise.Tables.{TableValue}
use Rattle.oa_journal.specs.declared.shape.BankFormat.{BankFormat}
use Rattle.oa_journal.specs.promise.Bank.{from_place, IsBank}
use Rattle.oa_journal.proofs.Banks.{one_bank, same_shape}
use Rattle.oa_store.specs.promise.Stores.{body_place, head_place, IsStoreAt, IsStore}
use Rattle.oa_store.specs.OneStore.{AreSameStores}

pub record IsSameStore (shape : BankFormat) (chosen gate : ℕ) (library : List ℕ) (table : TableValue) (also : BankFormat) (number end : ℕ)
    (text : List ℕ) (other : TableValue) : Type 0 where
  pub shape_same : shape ≡ also
  pub chosen_same : chosen ≡ number
  pub gate_same : gate ≡ end
  pub library_same : library ≡ text
  pub table_same : table ≡ other

pub one_store_at : (image : List ℕ) (shape : BankFormat) (chosen gate : ℕ) (library : List ℕ) (table : TableValue) (also : BankFormat)
    (number end : ℕ) (text : List ℕ) (other : TableValue)
    → IsStoreAt shape chosen gate library table image → IsStoreAt also number end text other image
    → IsSameStore shape chosen gate library table also number end text other
one_store_at image shape chosen gate library table also number end text other one two =
    let number_is : number ≡ chosen = sym two.head.selected ∙ one.head.selected in
    let there = subst (λ (k : ℕ). IsBank also (from_place (head_place k) image) (from_place (body_place also k) image) text other end)
    number_is two.bank in
    let head = from_place (head_place chosen) image in
    let shapes = same_shape head (from_place (body_place also chosen) image) (from_place (body_place shape chosen) image) also text other end
    shape library table gate there one.bank in
    let here = subst (λ (s : BankFormat). IsBank s head (from_place (body_place s chosen) image) text other end) shapes there in
    let same = one_bank shape head (from_place (body_place shape chosen) image) library table gate text other end one.bank here in
    record {
      shape_same = sym shapes;
      chosen_same = sym number_is;
      gate_same = same.gate_same;
      library_same = same.library_same;
      table_same = same.table_same;
    }

pub one_store : (image library text : List ℕ) (table other : TableValue) (one : IsStore image library table) (two : IsStore image text other)
    → AreSameStores one.0 library table two.0 text other
one_store image library text table other one two =
    let same = one_store_at image one.0 one.1.0 one.1.1 library table two.0 two.1.0 two.1.1 text other one.1.2 two.1.2 in
    record { shape_same = same.shape_same; library_same = same.library_same; table_same = same.table_same }
