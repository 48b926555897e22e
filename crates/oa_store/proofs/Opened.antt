-- What an opening finds.
use Rattle.std.proofs.Common.{◌≡◌, ◌⊎◌, inl, inr, ⊎_elim, ◌∙◌, ℕ, zero, suc, ◌+◌, ◌*◌, ◌<◌, ◌≤◌, List, Bool, Option, Some, length, length-drop, take, drop}
use Rattle.std.proofs.Common.{slice_index, refl, sym, ap, subst, arith}
use Rattle.std.proofs.lemmas.List.{get_or-drop, get_or-take, length-take-le}
use Rattle.oa_disk.specs.promise.Disk.{Only}
use Rattle.oa_disk.specs.declared.disk.DeviceFault.{DeviceFault}
use Rattle.oa_disk.specs.declared.disk.DeviceFault.TheVariants as devices
use Rattle.oa_table.specs.promise.Tables.{TableValue}
use Rattle.oa_journal.specs.declared.shape.BankFormat.{BankFormat}
use Rattle.oa_journal.specs.declared.shape.BankFormat.TheVariants.{One, Two}
use Rattle.oa_journal.proofs.Banks.{bank_header}
use Rattle.oa_journal.proofs.Unique.{one_head}
use Rattle.oa_journal.specs.promise.Bank.{from_place, Shows, IsBank, HasHead, HasHeader, HasLibrary, body_bytes}
use Rattle.oa_journal.specs.promise.Bank.{disk_bytes}
use Rattle.oa_journal.specs.declared.bank.Bank.{Bank}
use Rattle.oa_journal.specs.declared.bank.BankFault.{BankFault}
use Rattle.oa_journal.specs.declared.bank.BankFault.TheVariants as banks
use Rattle.oa_journal.specs.Append.{IsAt}
use Rattle.oa_journal.specs.Damages.{IsDamagedBank}
use Rattle.oa_journal.specs.promise.Damages.{IsDamagedHead}
use Rattle.oa_journal.proofs.Damages.{bank_library, not_damaged, one_library}
use Rattle.oa_journal.specs.Replies.{IsCausedBankFault as IsBankCaused}
use Rattle.oa_store.specs.declared.fault.FindFault.{FindFault}
use Rattle.oa_store.specs.declared.fault.FindFault.TheVariants as finds
use Rattle.oa_store.specs.declared.fault.OpenFault.{OpenFault}
use Rattle.oa_store.specs.declared.fault.OpenFault.TheVariants.{NotAStore, OldFormat, LibraryDiffers, Damaged, Device, Memory}
use Rattle.oa_store.specs.promise.Faults.{SpeaksOfContents, IsBeheaded, IsCausedOpenFault, IsDamaged, IsFailed}
use Rattle.oa_store.specs.promise.Faults.{IsSpoilt, HasWanted, IsOther, RefusalSays, DeviceTells, moments_until}
use Rattle.oa_store.specs.Faults.{HeadSays, finding_of_bank, of_bank, of_finding}
use Rattle.oa_store.specs.promise.Stores.{body_place, head_place, IsFormatted, IsStoreAt}
use Rattle.oa_store.specs.Stores.{IsNewStore}

-- what holds of the bytes where a bank stands holds of them under other names
pub carried : (P : BankFormat → (ℕ → ℕ) → (ℕ → ℕ) → Type 0) (bank : Bank) (shape : BankFormat) (head body gate : ℕ) (stopped : Bool)
    (was is : List ℕ) → IsAt shape head body gate stopped bank → was ≡ is
    → P bank.shape (from_place bank.head was) (from_place bank.body was) → P shape (from_place head is) (from_place body is)
carried P bank shape head body gate stopped was is at same p =
    subst (λ (d : List ℕ). P shape (from_place head d) (from_place body d)) same
    (subst (λ (s : BankFormat). P s (from_place head was) (from_place body was)) at.shape_is
    (subst (λ (b : ℕ). P bank.shape (from_place head was) (from_place b was)) at.body_is
    (subst (λ (h : ℕ). P bank.shape (from_place h was) (from_place bank.body was)) at.head_is p)))

-- a refusal that is given once a bank is looked at
pub says_late : (wanted : Option (List ℕ)) (size : ℕ) (contents : List ℕ) (e : BankFault)
    → ((at : ℕ) → e ≡ banks.Damaged at → IsDamaged wanted contents at) → RefusalSays wanted size contents (of_bank e)
says_late wanted size contents (banks.Damaged place) f = f place refl
says_late wanted size contents (banks.Device fault) f = tt
says_late wanted size contents banks.Memory f = tt

-- and one that is given before
pub says_first : (wanted : Option (List ℕ)) (size : ℕ) (contents : List ℕ) (e : FindFault) → HeadSays size contents e
    → RefusalSays wanted size contents (of_finding e)
says_first wanted size contents finds.NotAStore says = says
says_first wanted size contents (finds.Damaged place) says = inl says
says_first wanted size contents (finds.Device fault) says = tt
says_first wanted size contents finds.Memory says = tt

-- what a bank's fault says, as one of a search for a head
pub bank_says : (size : ℕ) (contents : List ℕ) (e : BankFault) → ((at : ℕ) → e ≡ banks.Damaged at → IsBeheaded contents at)
    → HeadSays size contents (finding_of_bank e)
bank_says size contents (banks.Damaged place) f = f place refl
bank_says size contents (banks.Device fault) f = tt
bank_says size contents banks.Memory f = tt

-- where the head was looked for stands none, so the bank that was chosen has none
pub beheaded : (contents mid : List ℕ) (chosen place at : ℕ) → IsFormatted chosen contents → mid ≡ contents → place ≡ head_place chosen
    → at ≡ place → IsDamagedHead place mid → IsBeheaded contents at
beheaded contents mid chosen place at head stay there is none = record {
  chosen = chosen;
  head = head;
  there = is ∙ there;
  none = subst (λ (d : List ℕ). IsDamagedHead (head_place chosen) d) stay (subst (λ (k : ℕ). IsDamagedHead k mid) there none);
}

-- its cause, as that of a fault of an opening
pub bank_caused : (before now : ℕ) (e : BankFault) → IsBankCaused before now e → IsCausedOpenFault before now (of_bank e)
bank_caused before now (banks.Damaged place) is = is
bank_caused before now (banks.Device fault) is = is
bank_caused before now banks.Memory is = is

-- how far the clock rises until a refusal: of a search for a bank, of one for its head, and once the bank is looked at
pub until_bank : (before now : ℕ) (e : FindFault) → now ≤ before + moments_until 6 (of_finding e)
    → now ≤ before + moments_until 8 (of_finding e)
until_bank before now finds.NotAStore is = is
until_bank before now (finds.Damaged place) is = omega (arith, is)
until_bank before now (finds.Device fault) is = omega (arith, is)
until_bank before now finds.Memory is = omega (arith, is)

pub until_head : (before now : ℕ) (e : BankFault) → now ≤ before + 8 → now ≤ before + moments_until 8 (of_finding (finding_of_bank e))
until_head before now (banks.Damaged place) is = is
until_head before now (banks.Device fault) is = is
until_head before now banks.Memory is = is

pub until_body : (most before now : ℕ) (e : FindFault) → 8 ≤ most → now ≤ before + moments_until 8 (of_finding e)
    → now ≤ before + moments_until most (of_finding e)
until_body most before now finds.NotAStore more is = is
until_body most before now (finds.Damaged place) more is = omega (arith, more, is)
until_body most before now (finds.Device fault) more is = omega (arith, more, is)
until_body most before now finds.Memory more is = omega (arith, more, is)

pub until_late : (most before now : ℕ) (e : BankFault) → now ≤ before + most → now ≤ before + moments_until most (of_bank e)
until_late most before now (banks.Damaged place) is = is
until_late most before now (banks.Device fault) is = is
until_late most before now banks.Memory is = is

-- which call has failed
pub read_failed : (contents : List ℕ) (before after : List ℕ → Type 0) (fault : DeviceFault) → fault ≡ devices.Read → Only contents after
    → IsFailed contents before after fault
read_failed contents before after fault is only = subst (λ (f : DeviceFault). IsFailed contents before after f) (sym is) only

-- once a bank is looked at, no sync fails
pub tells_late : (contents : List ℕ) (before after : List ℕ → Type 0) (e : BankFault)
    → ((fault : DeviceFault) → e ≡ banks.Device fault → fault ≡ devices.Read) → Only contents after
    → DeviceTells contents before after (of_bank e)
tells_late contents before after (banks.Damaged place) read only = tt
tells_late contents before after (banks.Device fault) read only = read_failed contents before after fault (read fault refl) only
tells_late contents before after banks.Memory read only = tt

-- the library that is wanted is that of a bank of format 2 that begins with it
pub wanted_in : (shape : BankFormat) (size : ℕ) → shape ≡ Two size → (head body : ℕ → ℕ) (library : List ℕ) → HasLibrary shape head body library
    → HasWanted (Some library) shape head body
wanted_in shape size is head body library has =
    subst (λ (s : BankFormat). HasWanted (Some library) s head body) (sym is) (subst (λ (s : BankFormat). HasLibrary s head body library) is has)

pub of_wanted : (shape : BankFormat) (head body : ℕ → ℕ) (library : List ℕ) → HasWanted (Some library) shape head body → HasLibrary shape head body library
of_wanted One head body library is = absurd is
of_wanted (Two size) head body library is = is

-- a bank whose head was found, and which is damaged, is damaged in its body
pub spoilt : (Begins : BankFormat → (ℕ → ℕ) → (ℕ → ℕ) → Type 0) (contents : List ℕ) (chosen : ℕ) (shape : BankFormat) (l s at : ℕ) → IsFormatted chosen contents
    → HasHead shape (head_place chosen) contents l s
    → Begins shape (from_place (head_place chosen) contents) (from_place (body_place shape chosen) contents)
    → IsDamagedBank shape (head_place chosen) (body_place shape chosen) contents at → IsBeheaded contents at ⊎ IsSpoilt Begins contents at
spoilt Begins contents chosen shape l s at head has begins (inl none) = absurd (none.1 l s has.has)
spoilt Begins contents chosen shape l s at head has begins (inr body) = inr (record {
  chosen = chosen;
  head = head;
  shape = shape;
  room = has.room;
  offset = body.0;
  there = body.1;
  damaged = body.2;
  begins = begins;
})

-- a disk that has room for two banks of a format has it for a body
pub within_disk : (shape : BankFormat) → body_bytes shape ≤ disk_bytes shape
within_disk One = omega arith
within_disk (Two size) = omega arith

-- a library of a bank lies on the disk
within : (chosen l s size n : ℕ) → chosen < 2 → 33562624 + 2 * size ≤ n → l + s < size → 33562624 + chosen * size + l ≤ n
within zero l s size n two room inside = omega arith
within (suc zero) l s size n two room inside = omega arith
within (suc (suc chosen)) l s size n two room inside = absurd (omega arith)

-- a library that has another length is another one
pub other_long : (contents library : List ℕ) (chosen l s size : ℕ) → chosen < 2 → IsFormatted chosen contents
    → HasHead (Two size) (head_place chosen) contents l s → (l ≡ length library → ⊥) → IsOther contents library
other_long contents library chosen l s size two head has differs =
    let body = body_place (Two size) chosen in
    let inside : body + l ≤ length contents = within chosen l s size (length contents) two has.room has.has.inside in
    let text : List ℕ = take l (drop body contents) in
    let long : length text ≡ l = length-take-le l (drop body contents) (omega (arith, length-drop body contents, inside)) in
    let shown : Shows (from_place body contents) 0 text = λ i lt.
    let there : body + i ≡ body + (0 + i) = omega arith in
    sym (get_or-take l (drop body contents) i 0 (omega (arith, lt, long)) ∙ get_or-drop body contents i 0 ∙ ap (λ (k : ℕ). slice_index contents k) there) in
    record {
      chosen = chosen;
      head = head;
      size = size;
      room = has.room;
      other = text;
      has = record {
        snapshot = s;
        has = subst (λ (n : ℕ). HasHeader (Two size) (from_place (head_place chosen) contents) n s) (sym long) has.has;
        text = shown;
      };
      differs = λ same. differs (sym long ∙ ap length same);
    }

-- a store's bank is the one that the selector names
pub its_bank : (shape : BankFormat) (contents : List ℕ) (chosen number gate : ℕ) (library : List ℕ) (table : TableValue)
    → IsFormatted chosen contents → IsStoreAt shape number gate library table contents
    → IsStoreAt shape chosen gate library table contents
its_bank shape contents chosen number gate library table head is =
    subst (λ (k : ℕ). IsStoreAt shape k gate library table contents) (sym is.head.selected ∙ head.selected) is

-- a head that a store's bank has, in whichever format, is that of the store
pub its_shape : (shape other : BankFormat) (contents : List ℕ) (chosen gate l s : ℕ) (library : List ℕ) (table : TableValue)
    → HasHeader other (from_place (head_place chosen) contents) l s
    → IsStoreAt shape chosen gate library table contents → shape ≡ other
its_shape shape other contents chosen gate l s library table has is =
    let head = from_place (head_place chosen) contents in
    (one_head head shape (length library) _ other l s (bank_header shape head (from_place (body_place shape chosen) contents) library table gate is.bank)
    has).shape_same

-- what is refused is no store of the library that is wanted in format 2
pub refused : (library : List ℕ) (size : ℕ) (contents : List ℕ) (e : OpenFault) → length contents ≡ size → SpeaksOfContents e
    → RefusalSays (Some library) size contents e
    → (table : TableValue) → IsNewStore contents library table → ⊥
refused library size contents NotAStore long r says table is = ⊎_elim (λ lt. absurd (omega (arith, lt, long, is.1.2.head.size)))
    (λ none. none is.1.2.head.formatted) says
refused library size contents OldFormat long r says table is =
    let store = its_bank (Two is.0) contents says.chosen is.1.0 is.1.1 library table says.head is.1.2 in
    let shape : Two is.0 ≡ One = its_shape (Two is.0) One contents says.chosen is.1.1 says.library says.snapshot library table says.has.has store in
    absurd (cc shape)
refused library size contents LibraryDiffers long r says table is =
    let store = its_bank (Two is.0) contents says.chosen is.1.0 is.1.1 library table says.head is.1.2 in
    let other = Two says.size in
    let shape = its_shape (Two is.0) other contents says.chosen is.1.1 (length says.other) says.has.snapshot library table says.has.has store in
    let here = subst (λ (s : BankFormat). IsStoreAt s says.chosen is.1.1 library table contents) shape store in
    let head = from_place (head_place says.chosen) contents in
    let body = from_place (body_place other says.chosen) contents in
    says.differs (one_library other head body says.other library says.has (bank_library other head body library table is.1.1 here.bank))
refused library size contents (Damaged place) long r says table is = ⊎_elim
    (λ none.
    let store = its_bank (Two is.0) contents none.chosen is.1.0 is.1.1 library table none.head is.1.2 in
    none.none (Two is.0) (length library) _ (record {
      room = store.room;
      has = bank_header (Two is.0) (from_place (head_place none.chosen) contents) (from_place (body_place (Two is.0) none.chosen) contents)
          library table is.1.1 store.bank;
    }))
    (λ rest.
    let store = its_bank (Two is.0) contents rest.chosen is.1.0 is.1.1 library table rest.head is.1.2 in
    let head = from_place (head_place rest.chosen) contents in
    let begins = of_wanted rest.shape head (from_place (body_place rest.shape rest.chosen) contents) library rest.begins in
    let shape = its_shape (Two is.0) rest.shape contents rest.chosen is.1.1 (length library) begins.snapshot library table begins.has store in
    let here = subst (λ (s : BankFormat). IsStoreAt s rest.chosen is.1.1 library table contents) shape store in
    not_damaged rest.shape head (from_place (body_place rest.shape rest.chosen) contents) rest.offset library table is.1.1 rest.damaged here.bank)
    says
refused library size contents (Device fault) long r says table is = absurd r
refused library size contents Memory long r says table is = absurd r
