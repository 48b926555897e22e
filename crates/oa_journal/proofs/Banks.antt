-- What keeps a bank, what puts a group more into it, and that it reads in one way.
use Rattle.std.proofs.Common.{◌≡◌, ◌≢◌, ℕ, ◌+◌, ◌<◌, ◌≤◌, true, List, [], ◌∷◌, ◌++◌, length, Result, Ok, Err, refl, sym, ◌∙◌, ap, subst, arith}
use Rattle.oa_disk.specs.Disk.{HasBytesAt}
use Rattle.oa_table.specs.declared.event.Event.{Event}
use Rattle.oa_table.specs.declared.fault.TableFault.{TableFault}
use Rattle.oa_table.specs.promise.Events.{applied}
use Rattle.oa_table.specs.promise.Tables.{TableValue, unlocked_table}
use Rattle.oa_table.specs.Tables.{first_table}
use Rattle.oa_formats.specs.promise.Formats.{raw, next_by, made_where, times, coded, counted, only}
use Rattle.oa_formats.specs.promise.Numbers.{u32}
use Rattle.oa_formats.proofs.Exact.{one_list, one_value}
use Rattle.oa_image.specs.promise.Events.{event}
use Rattle.oa_image.specs.promise.Tables.{is_numbered, objects, table, table_image}
use Rattle.oa_image.proofs.Lengths.{event_bytes}
use Rattle.oa_image.proofs.Numbered.{numbers_stay}
use Rattle.oa_image.proofs.TablesWithImages.{same_table}
use Rattle.oa_journal.specs.promise.Bank.{applied_all, followed, Replays, ReplaysAll, body_bytes, format_of, told_size}
use Rattle.oa_journal.specs.promise.Bank.{IsShape, from_place, header_of, IsGroupAt, IsBank, HasHeader, start_of}
use Rattle.oa_journal.specs.promise.Bank.{first_gate}
use Rattle.oa_journal.specs.declared.shape.BankFormat.{BankFormat}
use Rattle.oa_journal.proofs.Shapes.{body_small}
use Rattle.oa_journal.proofs.LaidOut.{gate_behind, same_head, shut_parts, same_parts, parts_with}
use Rattle.oa_journal.specs.Fronts.{front_of}
use Rattle.oa_journal.proofs.Fronts.{front_parts, held}
use Rattle.oa_journal.proofs.Unique.{one_head, one_layout}
use Rattle.oa_journal.specs.Banks.{IsSameBank}

abbrev made : TableValue → Result TableValue TableFault
made t = Ok t

same_made : (a b : TableValue) → made a ≡ made b → a ≡ b
same_made a b e = cc

-- the bytes of a group make one table of a table
pub one_replay : (group : List ℕ) (old new other : TableValue) → Replays group old new → Replays group old other → new ≡ other
one_replay group old new other one two =
    let same : one.events ≡ two.events = one_list event event_bytes one.events two.events one.are.are two.are.are (sym one.are.whole
    ∙ two.are.whole) in
    same_made new other (sym one.makes ∙ ap (λ (es : List Event). applied_all es old) same ∙ two.makes)

-- so do groups
pub one_replay_all : (groups : List (List ℕ)) (old new other : TableValue) → ReplaysAll groups old new → ReplaysAll groups old other
    → new ≡ other
one_replay_all [] old new other one two = sym one ∙ two
one_replay_all (group ∷ groups) old new other one two =
    let mid = one_replay group old one.0 two.0 one.1 two.1 in
    one_replay_all groups two.0 new other (subst (λ (t : TableValue). ReplaysAll groups t new) mid one.2) two.2

-- one group more
pub replays_more : (groups : List (List ℕ)) (group : List ℕ) (old mid new : TableValue) → ReplaysAll groups old mid → Replays group mid new
    → ReplaysAll (groups ++ group ∷ []) old new
replays_more [] group old mid new all one = (new, subst (λ (t : TableValue). Replays group t new) (sym all) one, refl)
replays_more (first ∷ groups) group old mid new all one = (all.0, all.1, replays_more groups group all.0 mid new all.2 one)

-- the head that a bank has
pub bank_header : (shape : BankFormat) (head body : ℕ → ℕ) (library : List ℕ) (now : TableValue) (gate : ℕ)
    (bank : IsBank shape head body library now gate)
    → HasHeader shape head (length library) (length (table_image bank.first))
bank_header shape head body library now gate bank =
    let le = gate_behind body (start_of library (table_image bank.first)) bank.groups gate bank.parts.behind in
    record { known = bank.known; header = bank.header; inside = omega (arith, le, bank.parts.inside) }

-- two heads, the same in their 32 bytes, and two bodies
module _ (shape : BankFormat) (head other f g : ℕ → ℕ) (library : List ℕ) (now : TableValue) (gate : ℕ)
    (heads : (i : ℕ) → i < 32 → other i ≡ head i) where
  -- What stands behind the gate does not count, nor does which byte closes the gate.
  pub shut_bank : ((i : ℕ) → i < gate → g i ≡ f i) → g gate ≢ 1 → IsBank shape head f library now gate
      → IsBank shape other g library now gate
  shut_bank same shut bank = record {
    known = bank.known;
    first = bank.first;
    is = bank.is;
    groups = bank.groups;
    header = same_head head other (format_of shape) (told_size shape) (length library) (length (table_image bank.first)) heads bank.header;
    parts = shut_parts (body_bytes shape) f g library (table_image bank.first) bank.groups gate same shut bank.parts;
    makes = bank.makes;
  }

  -- the same bytes up to the gate
  pub same_bank : ((i : ℕ) → i ≤ gate → g i ≡ f i) → IsBank shape head f library now gate → IsBank shape other g library now gate
  same_bank same bank = record {
    known = bank.known;
    first = bank.first;
    is = bank.is;
    groups = bank.groups;
    header = same_head head other (format_of shape) (told_size shape) (length library) (length (table_image bank.first)) heads bank.header;
    parts = same_parts (body_bytes shape) f g library (table_image bank.first) bank.groups gate same bank.parts;
    makes = bank.makes;
  }

  -- a group more, which makes another table, and a closed gate behind it
  pub bank_with : (group : List ℕ) (after : TableValue) → ((i : ℕ) → i < gate → g i ≡ f i) → IsBank shape head f library now gate
      → Replays group now after → IsGroupAt g gate group
      → g (gate + (5 + length group)) ≢ 1 → gate + (5 + length group) < body_bytes shape
      → IsBank shape other g library after (gate + (5 + length group))
  bank_with group after same bank makes is shut inside = record {
    known = bank.known;
    first = bank.first;
    is = bank.is;
    groups = bank.groups ++ group ∷ [];
    header = same_head head other (format_of shape) (told_size shape) (length library) (length (table_image bank.first)) heads bank.header;
    parts = parts_with (body_bytes shape) f g library (table_image bank.first) bank.groups gate group same bank.parts is shut inside;
    makes = replays_more bank.groups group bank.first now after bank.makes makes;
  }

-- the image of the table at first
pub length-first : length (table_image first_table) ≡ 8
unfolding table objects only counted coded made_where next_by times u32 raw
length-first = refl

-- an image has a next number and a count at least
pub image_long : (t : TableValue) → 8 ≤ length (table_image t)
unfolding table objects only counted coded made_where next_by times u32 raw
image_long t = omega arith

-- a bank that was just written: its head at one place, its body at another
pub front_bank : (shape : BankFormat) (at place : ℕ) (disk library : List ℕ) (now : TableValue) → IsShape shape → table.Is now
    → first_gate library now < body_bytes shape
    → HasBytesAt disk at (header_of shape (length library) (length (table_image now)))
    → HasBytesAt disk place (front_of library (table_image now))
    → IsBank shape (from_place at disk) (from_place place disk) library now (first_gate library now)
front_bank shape at place disk library now known is fits head holds = record {
  known = known;
  first = now;
  is = is;
  groups = [];
  header = held at 0 at disk (header_of shape (length library) (length (table_image now))) (omega arith) head;
  parts = front_parts (body_bytes shape) place disk library (table_image now) fits holds;
  makes = refl;
}

-- the same of a table in memory, which may have locks: a bank holds none
pub memory_bank : (shape : BankFormat) (at place : ℕ) (disk library : List ℕ) (now : TableValue) → IsShape shape → table.Is (unlocked_table now)
    → first_gate library now < body_bytes shape
    → HasBytesAt disk at (header_of shape (length library) (length (table_image now)))
    → HasBytesAt disk place (front_of library (table_image now))
    → IsBank shape (from_place at disk) (from_place place disk) library (unlocked_table now) (first_gate library now)
memory_bank shape at place disk library now known is fits head holds =
    subst (λ (image : List ℕ). start_of library image < body_bytes shape
    → HasBytesAt disk at (header_of shape (length library) (length image))
    → HasBytesAt disk place (front_of library image)
    → IsBank shape (from_place at disk) (from_place place disk) library (unlocked_table now) (start_of library image))
    (same_table now) (front_bank shape at place disk library (unlocked_table now) known is) fits head holds

-- the numbers of a table's objects are from 1 to below the next one, and events keep them so
pub replays_numbered : (events : List Event) (old new : TableValue) → is_numbered old ≡ true → applied_all events old ≡ Ok new
    → is_numbered new ≡ true
replays_numbered [] old new is e = subst (λ (t : TableValue). is_numbered t ≡ true) (same_made old new e) is
replays_numbered (event ∷ events) old new is e = by (applied event old) (λ mid first. numbers_stay event old mid is first)
    (λ mid there. replays_numbered events mid new there) e
  where
    by : (r : Result TableValue TableFault) → ((mid : TableValue) → r ≡ Ok mid → is_numbered mid ≡ true)
        → ((mid : TableValue) → is_numbered mid ≡ true → applied_all events mid ≡ Ok new → is_numbered new ≡ true)
        → followed (λ next. applied_all events next) r ≡ Ok new → is_numbered new ≡ true
    by (Ok mid) stays later rest = later mid (stays mid refl) rest
    by (Err fault) stays later rest = absurd cc

-- nor does a group change that, nor has an image another table
pub group_numbered : (group : List ℕ) (old new : TableValue) → Replays group old new → is_numbered old ≡ true → is_numbered new ≡ true
group_numbered group old new replays is = replays_numbered replays.events old new is replays.makes

pub table_numbered : (now : TableValue) → table.Is now → is_numbered now ≡ true
unfolding table only coded
table_numbered now is = is.1

-- the head alone says which format it is
pub same_shape : (head f g : ℕ → ℕ) (shape : BankFormat) (library : List ℕ) (now : TableValue) (gate : ℕ) (other : BankFormat) (text : List ℕ)
    (also : TableValue) (end : ℕ)
    → IsBank shape head f library now gate → IsBank other head g text also end → shape ≡ other
same_shape head f g shape library now gate other text also end one two =
    (one_head head shape (length library) (length (table_image one.first)) other (length text) (length (table_image two.first))
    (bank_header shape head f library now gate one) (bank_header other head g text also end two)).shape_same

pub one_bank : (shape : BankFormat) (head body : ℕ → ℕ) (library : List ℕ) (now : TableValue) (gate : ℕ) (text : List ℕ)
    (also : TableValue) (end : ℕ)
    → IsBank shape head body library now gate → IsBank shape head body text also end → IsSameBank shape library now gate shape text also end
one_bank shape head body library now gate text also end one two =
    let heads = one_head head shape (length library) (length (table_image one.first)) shape (length text) (length (table_image two.first))
    (bank_header shape head body library now gate one) (bank_header shape head body text also end two) in
    let parts = one_layout (body_bytes shape) body library (table_image one.first) one.groups gate text (table_image two.first) two.groups end
    (omega (arith, body_small shape one.known)) heads.library_same heads.snapshot_same one.parts two.parts in
    let first = one_value table one.first two.first one.is two.is parts.snapshot_same in
    let groups = subst (λ (gs : List (List ℕ)). ReplaysAll gs one.first now) parts.groups_same one.makes in
    record {
      shape_same = refl;
      library_same = parts.library_same;
      table_same = one_replay_all two.groups two.first now also
          (subst (λ (t : TableValue). ReplaysAll two.groups t now) first groups) two.makes;
      gate_same = parts.gate_same;
    }
