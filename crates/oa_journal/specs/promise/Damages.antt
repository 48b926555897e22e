-- Where bytes that are no bank are damaged: at the first invalid part among head, snapshot and groups. (This
-- project's choice.)
use Rattle.std.proofs.Common.{◌≡◌, ◌⊎◌, ℕ, ◌+◌, ◌<◌, List, [], ◌∷◌, length}
use Rattle.oa_table.specs.promise.Tables.{TableValue}
use Rattle.oa_image.specs.promise.Tables.{table, table_image}
use Rattle.oa_journal.specs.declared.shape.BankFormat.{BankFormat}
use Rattle.oa_journal.specs.promise.Bank.{Shows, IsGroupAt, HasHeader, HasHead, Replays, ReplaysAll, body_bytes}

-- after the library comes the encoding of this table
pub record HasSnapshot (shape : BankFormat) (head body : ℕ → ℕ) (library snapshot : ℕ)
    (first : TableValue) : Type 0 where
  pub has : HasHeader shape head library snapshot
  pub is : table.Is first
  pub long : length (table_image first) ≡ snapshot
  pub image : Shows body library (table_image first)

-- open groups, one after the other, from one place to another
abbrev pub AreGroupsTo : (ℕ → ℕ) → ℕ → List (List ℕ) → ℕ → Type 0
AreGroupsTo byte at [] end = at ≡ end
AreGroupsTo byte at (group ∷ groups) end =
    IsGroupAt byte at group × AreGroupsTo byte (at + (5 + length group)) groups end

-- an open gate that is not followed by a group that applies to this table
pub record IsNoGroup (size : ℕ) (byte : ℕ → ℕ) (at : ℕ) (now : TableValue) : Type 0 where
  pub opened : byte at ≡ 1
  pub none : (group : List ℕ) (after : TableValue) → IsGroupAt byte at group → at + (5 + length group) < size
      → Replays group now after → ⊥

-- groups that apply, and then, at this place, something that is no such group
pub record StopsAt (size : ℕ) (byte : ℕ → ℕ) (from : ℕ) (first : TableValue) (place : ℕ) : Type 0 where
  pub groups : List (List ℕ)
  pub there : AreGroupsTo byte from groups place
  pub now : TableValue
  pub makes : ReplaysAll groups first now
  pub inside : place < size
  pub stops : IsNoGroup size byte place now

-- at this place of a disk there is no head of any format
abbrev pub IsDamagedHead : ℕ → List ℕ → Type 0
IsDamagedHead place disk = (shape : BankFormat) (library snapshot : ℕ) → HasHead shape place disk library snapshot → ⊥

-- its body is damaged at its snapshot, which is no encoding of a table
abbrev pub IsDamagedSnapshot : BankFormat → (ℕ → ℕ) → (ℕ → ℕ) → ℕ → Type 0
IsDamagedSnapshot shape head body place =
    (library : ℕ) × (snapshot : ℕ) × HasHeader shape head library snapshot × (place ≡ library)
    × ((first : TableValue) → HasSnapshot shape head body library snapshot first → ⊥)

-- its body is damaged at the gate of the first group that does not apply
abbrev pub IsDamagedGroup : BankFormat → (ℕ → ℕ) → (ℕ → ℕ) → ℕ → Type 0
IsDamagedGroup shape head body place =
    (library : ℕ) × (snapshot : ℕ) × (first : TableValue) × HasSnapshot shape head body library snapshot first
    × StopsAt (body_bytes shape) body (library + snapshot) first place

abbrev pub IsDamagedBody : BankFormat → (ℕ → ℕ) → (ℕ → ℕ) → ℕ → Type 0
IsDamagedBody shape head body place = IsDamagedSnapshot shape head body place ⊎ IsDamagedGroup shape head body place
