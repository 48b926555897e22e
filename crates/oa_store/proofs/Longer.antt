-- A store on a disk that has more bytes behind it.
use Rattle.std.proofs.Common.{◌≡◌, ℕ, zero, suc, ◌+◌, ◌*◌, ◌%◌, ◌<◌, ◌≤◌, IsTrue, List, ◌++◌, length, get_or, sym, ◌∙◌, ap, subst, arith, length-append}
use Rattle.std.proofs.lemmas.List.{get_or_append_left}
use Rattle.std.proofs.lemmas.Nat.{mod_below}
use Rattle.oa_disk.specs.promise.Disk.{NothingPending, Only}
use Rattle.oa_disk.specs.declared.disk.Disk.{Ghosts}
use Rattle.oa_table.specs.promise.Tables.{TableValue}
use Rattle.oa_journal.specs.declared.shape.BankFormat.{BankFormat}
use Rattle.oa_journal.specs.declared.shape.BankFormat.TheVariants.{One, Two}
use Rattle.oa_journal.specs.promise.Bank.{from_place, body_bytes, disk_bytes}
use Rattle.oa_journal.proofs.Banks.{same_bank}
use Rattle.oa_store.specs.declared.upgrading.OldStore.{OldStore}
use Rattle.oa_store.specs.Bringing.{FindsOld, HoldsOld}
use Rattle.oa_store.specs.promise.Stores.{body_place, head_place, store_bytes, IsFormatted, IsStoreAt}

-- both banks lie within the bytes of their format
body_within : (shape : BankFormat) (chosen : ℕ) → chosen < 2 → body_place shape chosen + body_bytes shape ≤ disk_bytes shape
body_within One zero two = omega arith
body_within One (suc zero) two = omega arith
body_within One (suc (suc n)) two = absurd (omega (arith, two))
body_within (Two size) zero two = omega arith
body_within (Two size) (suc zero) two = omega arith
body_within (Two size) (suc (suc n)) two = absurd (omega (arith, two))

module _ (image more : List ℕ) where
  same_byte : (i : ℕ) → i < length image → get_or (image ++ more) i 0 ≡ get_or image i 0
  same_byte i lt = get_or_append_left image more 0 i lt

  pub longer_store : (shape : BankFormat) (chosen gate : ℕ) (library : List ℕ) (table : TableValue) → IsStoreAt shape chosen gate library table image
      → IsStoreAt shape chosen gate library table (image ++ more)
  longer_store shape chosen gate library table is =
      let two : chosen < 2 = omega (arith, is.head.selected, mod_below (get_or image 4096 0) 2 (omega arith)) in
      record {
        head = record {
          size = omega (arith, is.head.size, length-append image more);
          formatted = same_byte 0 (omega (arith, is.head.size)) ∙ is.head.formatted;
          selected = ap (λ (n : ℕ). n % 2) (same_byte 4096 (omega (arith, is.head.size))) ∙ is.head.selected;
        };
        room = omega (arith, is.room, length-append image more);
        bank = same_bank shape (from_place (head_place chosen) image) (from_place (head_place chosen) (image ++ more))
            (from_place (body_place shape chosen) image) (from_place (body_place shape chosen) (image ++ more)) library table gate
            (λ i lt. same_byte (head_place chosen + i) (omega (arith, lt, two, is.head.size)))
            (λ i le. same_byte (body_place shape chosen + i) (omega (arith, le, is.bank.parts.inside, body_within shape chosen two, is.room)))
            is.bank;
      }

-- a disk that has the bytes of another, and more behind them, holds what that one does
pub held_longer : {D : Type 0} (g : Ghosts D) (found : OldStore) (old new : D) (more : List ℕ) → g.contents new ≡ g.contents old ++ more
    → NothingPending g.contents g.image new → HoldsOld g found old → HoldsOld g found new
held_longer g found old new more same settled held = record {
  gate = held.gate;
  store =
      subst (λ (c : List ℕ). IsStoreAt One found.chosen held.gate found.library.items found.table c) (sym same)
      (longer_store (g.contents old) more One found.chosen held.gate found.library.items found.table held.store);
  settled = settled;
}

-- and so does the disk itself behind calls that have left its contents
pub held_still : {D : Type 0} (g : Ghosts D) (size : ℕ) (old new : D) (found : OldStore) → FindsOld g size old new found → IsTrue (g.is_honest new)
    → HoldsOld g found new
held_still g size old new found finds h = record {
  gate = (finds.store h).0;
  store =
      subst (λ (c : List ℕ). IsStoreAt One found.chosen (finds.store h).0 found.library.items found.table c) (sym (finds.contents h))
      (finds.store h).1;
  settled = subst (λ (c : List ℕ). Only c (g.image new)) (sym (finds.contents h)) (finds.synced h);
}
