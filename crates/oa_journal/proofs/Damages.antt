-- A bank is not damaged.
use Rattle.std.proofs.Common.{◌≡◌, ◌≢◌, ⊎_elim, ℕ, ◌+◌, ◌^◌, ◌<◌, ◌≤◌, List, [], ◌∷◌, ◌++◌, length, sym, ◌∙◌, ap, subst, arith}
use Rattle.oa_table.specs.promise.Tables.{TableValue}
use Rattle.oa_formats.proofs.Exact.{one_value}
use Rattle.oa_image.specs.promise.Tables.{table, table_image}
use Rattle.oa_journal.specs.declared.shape.BankFormat.{BankFormat}
use Rattle.oa_journal.specs.promise.Bank.{from_place, header_of, Shows, IsGroupAt, AreGroups, IsBank, HasHeader}
use Rattle.oa_journal.specs.promise.Bank.{HasLibrary, Replays, ReplaysAll, body_bytes}
use Rattle.oa_journal.proofs.Banks.{bank_header, one_replay}
use Rattle.oa_journal.proofs.LaidOut.{gate_behind}
use Rattle.oa_journal.proofs.Shapes.{body_small}
use Rattle.oa_journal.proofs.Unique.{at_open, one_head, same_bytes}
use Rattle.oa_journal.specs.promise.Damages.{AreGroupsTo, HasSnapshot, IsDamagedBody, IsNoGroup}
use Rattle.oa_journal.specs.Damages.{IsDamagedBank}

-- ---- groups up to a place

pub to_behind : (byte : ℕ → ℕ) (at : ℕ) (groups : List (List ℕ)) (end : ℕ) → AreGroupsTo byte at groups end → at ≤ end
to_behind byte at [] end all = omega (arith, all)
to_behind byte at (group ∷ groups) end all = let rest = to_behind byte (at + (5 + length group)) groups end all.1 in omega (arith, rest)

pub to_more : (byte : ℕ → ℕ) (at : ℕ) (groups : List (List ℕ)) (end : ℕ) (group : List ℕ) → AreGroupsTo byte at groups end
    → IsGroupAt byte end group → AreGroupsTo byte at (groups ++ group ∷ []) (end + (5 + length group))
to_more byte at [] end group all is = (subst (λ (k : ℕ). IsGroupAt byte k group) (sym all) is, ap (λ (k : ℕ). k + (5 + length group)) all)
to_more byte at (first ∷ groups) end group all is = (all.0, to_more byte (at + (5 + length first)) groups end group all.1 is)

-- at a gate that is not open they end
pub to_closed : (byte : ℕ → ℕ) (at : ℕ) (groups : List (List ℕ)) (end : ℕ) → AreGroupsTo byte at groups end → byte end ≢ 1
    → AreGroups byte at groups end
to_closed byte at [] end all shut = (all, λ is. shut (ap byte (sym all) ∙ is))
to_closed byte at (group ∷ groups) end all shut = (all.0, to_closed byte (at + (5 + length group)) groups end all.1 shut)

-- where groups stop, no groups make a table
pub none_beyond : (size : ℕ) (byte : ℕ → ℕ) (from : ℕ) (before : List (List ℕ)) (place : ℕ) (first mid : TableValue) → size < 2 ^ 32
    → AreGroupsTo byte from before place
    → ReplaysAll before first mid → place < size → IsNoGroup size byte place mid
    → (groups : List (List ℕ)) (now : TableValue) (gate : ℕ) → AreGroups byte from groups gate → ReplaysAll groups first now
    → gate < size → ⊥
none_beyond size byte from [] place first mid small there makes here stops [] now gate all made inside = all.1 (ap byte there ∙ stops.opened)
none_beyond size byte from [] place first mid small there makes here stops (group ∷ groups) now gate all made inside =
    let le = gate_behind byte (from + (5 + length group)) groups gate all.1 in
    stops.none group made.0 (subst (λ (k : ℕ). IsGroupAt byte k group) there all.0) (omega (arith, le, inside, there))
    (subst (λ (t : TableValue). Replays group t made.0) makes made.1)
none_beyond size byte from (one ∷ before) place first mid small there makes here stops groups now gate all made inside =
    let le = to_behind byte (from + (5 + length one)) before place there.1 in
    let rest = at_open byte from groups gate one (omega (arith, le, here, small)) (omega (arith, inside, small)) there.0 all in
    let again = subst (λ (gs : List (List ℕ)). ReplaysAll gs first now) rest.1 made in
    let same = one_replay one first again.0 makes.0 again.1 makes.1 in
    none_beyond size byte (from + (5 + length one)) before place makes.0 mid small there.1 makes.2 here stops rest.0 now gate rest.2
    (subst (λ (t : TableValue). ReplaysAll rest.0 t now) same again.2) inside

-- ---- a bank is not damaged

pub bank_library : (shape : BankFormat) (head body : ℕ → ℕ) (library : List ℕ) (now : TableValue) (gate : ℕ)
    → IsBank shape head body library now gate → HasLibrary shape head body library
bank_library shape head body library now gate bank = record {
  snapshot = length (table_image bank.first);
  has = bank_header shape head body library now gate bank;
  text = bank.parts.text;
}

-- bytes begin as a bank of one library
pub one_library : (shape : BankFormat) (head body : ℕ → ℕ) (library other : List ℕ) → HasLibrary shape head body library
    → HasLibrary shape head body other → library ≡ other
one_library shape head body library other one two =
    let heads = one_head head shape (length library) one.snapshot shape (length other) two.snapshot one.has two.has in
    same_bytes body 0 library other heads.library_same one.text two.text

-- what stands behind a library that it begins with
module _ (shape : BankFormat) (head body : ℕ → ℕ) (library : List ℕ) (l s : ℕ) (first : TableValue) (has : HasLibrary shape head body library)
    (snapshot : HasSnapshot shape head body l s first) where
  -- it is as long as the head of the snapshot tells
  pub library_long : length library ≡ l
  library_long = (one_head head shape (length library) has.snapshot shape l s has.has snapshot.has).library_same

  pub behind_library : (now : TableValue) (groups : List (List ℕ)) (gate : ℕ) → AreGroups body (l + s) groups gate
      → ReplaysAll groups first now → gate < body_bytes shape → IsBank shape head body library now gate
  behind_library now groups gate all makes inside =
      let long = sym snapshot.long in
      let same = (one_head head shape (length library) has.snapshot shape l s has.has snapshot.has).snapshot_same in
      let at : l + s ≡ length library + length (table_image first) = omega (arith, library_long, snapshot.long) in
      record {
        known = has.has.known;
        first = first;
        is = snapshot.is;
        groups = groups;
        header = subst (λ (k : ℕ). Shows head 0 (header_of shape (length library) k)) (same ∙ long) has.has.header;
        parts = record {
          text = has.text;
          image = subst (λ (k : ℕ). Shows body k (table_image first)) (sym library_long) snapshot.image;
          behind = subst (λ (k : ℕ). AreGroups body k groups gate) at all;
          inside = inside;
        };
        makes = makes;
      }

-- the lengths of its parts are those of any head that it has
pub bank_lengths : (shape : BankFormat) (head body : ℕ → ℕ) (library : List ℕ) (now : TableValue) (gate l s : ℕ) → HasHeader shape head l s
    → (bank : IsBank shape head body library now gate) → (length library ≡ l) × (length (table_image bank.first) ≡ s)
bank_lengths shape head body library now gate l s has bank =
    let heads = one_head head shape (length library) (length (table_image bank.first)) shape l s
    (bank_header shape head body library now gate bank) has in
    (heads.library_same, heads.snapshot_same)

pub bank_snapshot : (shape : BankFormat) (head body : ℕ → ℕ) (library : List ℕ) (now : TableValue) (gate l s : ℕ) → HasHeader shape head l s
    → (bank : IsBank shape head body library now gate) → HasSnapshot shape head body l s bank.first
bank_snapshot shape head body library now gate l s has bank =
    let long = bank_lengths shape head body library now gate l s has bank in
    record {
      has = has;
      is = bank.is;
      long = long.1;
      image = subst (λ (k : ℕ). Shows body k (table_image bank.first)) long.0 bank.parts.image;
    }

-- so it begins with the table of any snapshot that it has
pub bank_first : (shape : BankFormat) (head body : ℕ → ℕ) (library : List ℕ) (now : TableValue) (gate l s : ℕ) (first : TableValue)
    → HasSnapshot shape head body l s first
    → (bank : IsBank shape head body library now gate) → bank.first ≡ first
bank_first shape head body library now gate l s first has bank =
    let own = bank_snapshot shape head body library now gate l s has.has bank in
    one_value table bank.first first bank.is has.is (same_bytes body l (table_image bank.first) (table_image first)
    (own.long ∙ sym has.long) own.image has.image)

pub not_damaged : (shape : BankFormat) (head body : ℕ → ℕ) (place : ℕ) (library : List ℕ) (now : TableValue) (gate : ℕ)
    → IsDamagedBody shape head body place
    → IsBank shape head body library now gate → ⊥
not_damaged shape head body place library now gate damaged bank = ⊎_elim
    (λ image. image.4 bank.first (bank_snapshot shape head body library now gate image.0 image.1 image.2 bank))
    (λ rest.
    let long = bank_lengths shape head body library now gate rest.0 rest.1 rest.3.has bank in
    let first = bank_first shape head body library now gate rest.0 rest.1 rest.2 rest.3 bank in
    let at : length library + length (table_image bank.first) ≡ rest.0 + rest.1 = omega (arith, long.0, long.1) in
    none_beyond (body_bytes shape) body (rest.0 + rest.1) rest.4.groups place rest.2 rest.4.now (omega (arith, body_small shape bank.known)) rest.4.there
    rest.4.makes rest.4.inside rest.4.stops
    bank.groups now gate (subst (λ (k : ℕ). AreGroups body k bank.groups gate) at bank.parts.behind)
    (subst (λ (t : TableValue). ReplaysAll bank.groups t now) first bank.makes) bank.parts.inside)
    damaged

-- nor is a disk that has it
pub bank_not_damaged : (shape : BankFormat) (head body : ℕ) (disk : List ℕ) (at : ℕ) (library : List ℕ) (now : TableValue) (gate : ℕ)
    → IsDamagedBank shape head body disk at
    → IsBank shape (from_place head disk) (from_place body disk) library now gate → ⊥
bank_not_damaged shape head body disk at library now gate damaged bank = ⊎_elim
    (λ none. none.1 (length library) (length (table_image bank.first))
    (bank_header shape (from_place head disk) (from_place body disk) library now gate bank))
    (λ rest. not_damaged shape (from_place head disk) (from_place body disk) rest.0 library now gate rest.2 bank)
    damaged
