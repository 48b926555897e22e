-- What an upgrade finds and leaves.
use Rattle.std.proofs.Common.{◌≡◌, ◌⊎◌, inl, inr, ⊎_elim, ℕ, ◌-◌, List, Result, Ok, Err, OnOk, is_ok, false, true, true≢false, refl, sym, subst}
use Rattle.oa_disk.specs.promise.Disk.{Only}
use Rattle.oa_disk.specs.declared.disk.DeviceFault.{DeviceFault}
use Rattle.oa_disk.specs.declared.disk.DeviceFault.TheVariants as devices
use Rattle.oa_table.specs.promise.Tables.{TableValue, unlocked_table}
use Rattle.oa_journal.specs.declared.bank.Bank.{Bank}
use Rattle.oa_journal.specs.declared.shape.BankFormat.{BankFormat}
use Rattle.oa_journal.specs.declared.shape.BankFormat.TheVariants.{One, Two}
use Rattle.oa_journal.specs.promise.Bank.{body_bytes, from_place, IsBank}
use Rattle.oa_journal.specs.Append.{IsAt, TornBank}
use Rattle.oa_journal.proofs.Lockless.{no_locks}
use Rattle.oa_journal.specs.declared.bank.BankFault.{BankFault}
use Rattle.oa_journal.specs.declared.bank.BankFault.TheVariants as banks
use Rattle.oa_journal.specs.Replies.{IsCausedBankFault as IsBankCaused}
use Rattle.oa_store.specs.declared.fault.FindFault.{FindFault}
use Rattle.oa_store.specs.declared.fault.FindFault.TheVariants as finds
use Rattle.oa_store.specs.declared.fault.UpgradeFault.{UpgradeFault}
use Rattle.oa_store.specs.declared.fault.UpgradeFault.TheVariants as upgrades
use Rattle.oa_store.specs.Changes.{IsMove, IsMoved}
use Rattle.oa_store.specs.promise.Changes.{IsUpgrade}
use Rattle.oa_store.specs.Faults.{HeadSays, HasOldShape, IsCausedUpgrade, IsFailedUpgrade, ReadingTells, UpgradeSays}
use Rattle.oa_store.specs.Faults.{UpgradeDeviceTells, of_finding, upgrade_of_bank, upgrade_of_finding}
use Rattle.oa_store.specs.promise.Faults.{IsBeheaded, IsSpoilt, IsOld, IsCausedOpenFault, IsFailed, DeviceTells}
use Rattle.oa_store.proofs.OneStore.{one_store_at}
use Rattle.oa_store.specs.promise.Stores.{body_place, head_place, IsStoreAt, IsStoreIn}

-- a refusal before a bank is looked at, as one of an upgrade
pub says_early : (bank size : ℕ) (contents : List ℕ) (e : FindFault) → (e ≡ finds.Memory → ⊥) → HeadSays size contents e
    → UpgradeSays bank size contents (upgrade_of_finding e)
says_early bank size contents finds.NotAStore none says = says
says_early bank size contents (finds.Damaged place) none says = inr (inl says)
says_early bank size contents (finds.Device fault) none says = tt
says_early bank size contents finds.Memory none says = absurd (none refl)

-- that the disk has no room for format 2 is no reason of a reading
pub any_size_early : (e : FindFault) → upgrade_of_finding e ≡ upgrades.TooSmall → ⊥
any_size_early finds.NotAStore is = absurd cc
any_size_early (finds.Damaged place) is = absurd cc
any_size_early (finds.Device fault) is = absurd cc
any_size_early finds.Memory is = absurd cc

pub any_size_late : (e : BankFault) → upgrade_of_bank e ≡ upgrades.TooSmall → ⊥
any_size_late (banks.Damaged place) is = absurd cc
any_size_late (banks.Device fault) is = absurd cc
any_size_late banks.Memory is = absurd cc

pub caused_early : (before now : ℕ) (e : FindFault) → IsCausedOpenFault before now (of_finding e) → IsCausedUpgrade before now (upgrade_of_finding e)
caused_early before now finds.NotAStore is = is
caused_early before now (finds.Damaged place) is = is
caused_early before now (finds.Device fault) is = is
caused_early before now finds.Memory is = is

failed_upgrade : (bank : ℕ) (contents : List ℕ) (before after : List ℕ → Type 0) (fault : DeviceFault) → IsFailed contents before after fault
    → IsFailedUpgrade bank contents before after fault
failed_upgrade bank contents before after devices.Read is = is
failed_upgrade bank contents before after devices.Write is = inl is

-- what is told before the first write
pub upgrade_tells : (bank : ℕ) (contents : List ℕ) (before after : List ℕ → Type 0) (e : UpgradeFault) → ReadingTells contents before after e
    → UpgradeDeviceTells bank contents before after e
upgrade_tells bank contents before after upgrades.TooSmall is = tt
upgrade_tells bank contents before after upgrades.NotAStore is = tt
upgrade_tells bank contents before after upgrades.AlreadyNew is = tt
upgrade_tells bank contents before after (upgrades.Damaged place) is = tt
upgrade_tells bank contents before after (upgrades.Device fault) is = failed_upgrade bank contents before after fault is
upgrade_tells bank contents before after upgrades.Memory is = tt

pub tells_early : (contents : List ℕ) (before after : List ℕ → Type 0) (e : FindFault) → DeviceTells contents before after (of_finding e)
    → ReadingTells contents before after (upgrade_of_finding e)
tells_early contents before after finds.NotAStore is = tt
tells_early contents before after (finds.Damaged place) is = tt
tells_early contents before after (finds.Device fault) is = is
tells_early contents before after finds.Memory is = tt

-- and one once it is looked at
pub says_spoilt : (bank size : ℕ) (contents : List ℕ) (e : BankFault) → IsOld contents
    → ((place : ℕ) → e ≡ banks.Damaged place → IsBeheaded contents place ⊎ IsSpoilt HasOldShape contents place)
    → UpgradeSays bank size contents (upgrade_of_bank e)
says_spoilt bank size contents (banks.Damaged place) old f = inr (f place refl)
says_spoilt bank size contents (banks.Device fault) old f = tt
says_spoilt bank size contents banks.Memory old f = old

pub caused_late : (before now : ℕ) (e : BankFault) → IsBankCaused before now e → IsCausedUpgrade before now (upgrade_of_bank e)
caused_late before now (banks.Damaged place) is = is
caused_late before now (banks.Device fault) is = is
caused_late before now banks.Memory is = is

pub read_tells : (contents : List ℕ) (before after : List ℕ → Type 0) (e : BankFault)
    → ((fault : DeviceFault) → e ≡ banks.Device fault → fault ≡ devices.Read) → Only contents after
    → ReadingTells contents before after (upgrade_of_bank e)
read_tells contents before after (banks.Damaged place) read only = tt
read_tells contents before after (banks.Device fault) read only =
    subst (λ (f : DeviceFault). IsFailed contents before after f) (sym (read fault refl)) only
read_tells contents before after banks.Memory read only = tt

-- what a call does that succeeds was done where it has succeeded
pub was_done : (T E P : Type 0) (result : Result T E) → is_ok result ≡ true → OnOk result P → P
was_done T E P (Ok x) is done = done
was_done T E P (Err e) is done = absurd (true≢false (sym is))

-- what a bank does where it stands
module _ (bank : Bank) (shape : BankFormat) (head body gate : ℕ) (at : IsAt shape head body gate false bank) where
  pub torn_there : (old new : List ℕ) → TornBank bank.head bank.body (body_bytes bank.shape) old new
      → TornBank head body (body_bytes shape) old new
  torn_there old new torn =
      subst (λ (s : BankFormat). TornBank head body (body_bytes s) old new) at.shape_is
      (subst (λ (b : ℕ). TornBank head b (body_bytes bank.shape) old new) at.body_is
      (subst (λ (h : ℕ). TornBank h bank.body (body_bytes bank.shape) old new) at.head_is torn))

  pub bank_there : (disk library : List ℕ) (table : TableValue) (end : ℕ)
      → IsBank bank.shape (from_place bank.head disk) (from_place bank.body disk) library table end
      → IsBank shape (from_place head disk) (from_place body disk) library table end
  bank_there disk library table end is =
      subst (λ (s : BankFormat). IsBank s (from_place head disk) (from_place body disk) library table end) at.shape_is
      (subst (λ (b : ℕ). IsBank bank.shape (from_place head disk) (from_place b disk) library table end) at.body_is
      (subst (λ (h : ℕ). IsBank bank.shape (from_place h disk) (from_place bank.body disk) library table end) at.head_is is))

module _ (size chosen gate next : ℕ) (library : List ℕ) (table : TableValue) (found d f : List ℕ)
    (is : IsStoreAt One chosen gate library table found) (same : d ≡ found) where
  lockless : unlocked_table table ≡ table
  lockless = no_locks One (from_place (head_place chosen) found) (from_place (body_place One chosen) found) library table gate is.bank

  here : IsStoreAt One chosen gate library table d
  here = subst (λ (c : List ℕ). IsStoreAt One chosen gate library table c) (sym same) is

  -- the store that was found, before or after
  pub moved : IsMove chosen size next library (unlocked_table table) d f → IsUpgrade size found f
  moved move shape text other store =
      let all = one_store_at found One chosen gate library table shape store.0 store.1 text other is store.2 in
      let step = subst (λ (t : TableValue). IsMove chosen size next library t d f) lockless move in
      let left : IsStoreIn One f library table ⊎ IsStoreIn (Two size) f library table =
      ⊎_elim (λ old. inl (chosen, gate, old)) (λ new. inr (1 - chosen, next, new)) (step One gate library (inl refl) here) in
      subst (λ (s : BankFormat). IsStoreIn s f text other ⊎ IsStoreIn (Two size) f text other) all.shape_same
      (subst (λ (t : TableValue). IsStoreIn One f text t ⊎ IsStoreIn (Two size) f text t) all.table_same
      (subst (λ (l : List ℕ). IsStoreIn One f l table ⊎ IsStoreIn (Two size) f l table) all.library_same left))

  -- and after
  pub arrived : IsMoved chosen size next library (unlocked_table table) d f → IsStoreAt (Two size) (1 - chosen) next library table f
  arrived move = let step = subst (λ (t : TableValue). IsMoved chosen size next library t d f) lockless move in step One gate library (inl refl) here
