-- Reading the image of a table part by part. (This project's choice.)
use Rattle.std.specs.Prelude.{◌≡◌, ◌<◌, ◌≤◌, ◌+◌, ◌^◌, ℕ, Bool, true, List, [], ◌∷◌, ◌++◌, length, take, Option, Some}
use Rattle.std.specs.Prelude.{None}
use Rattle.std.specs.List.{flat_map}
use Rattle.oa_table.specs.promise.Tables.{ObjectValue, TableValue}
use Rattle.oa_formats.specs.promise.Formats.{Format, ◌▸◌}
use Rattle.oa_formats.specs.promise.Numbers.{u32, guid_format}
use Rattle.oa_image.specs.promise.Tables.{cell, object, table, table_image}
use Rattle.oa_image.specs.declared.reader.OpenObject.{OpenObject}
use Rattle.oa_image.specs.declared.reader.OpenTable.{OpenTable}

-- the bytes before the objects: the next number, and the number of objects
unfoldable pub table_head : Format (ℕ × ℕ)
table_head = u32 ▸ u32

-- the bytes before the cells of an object: its number, its coclass, and the number of its cells
unfoldable pub object_head : Format (ℕ × (List ℕ × ℕ))
object_head = u32 ▸ guid_format ▸ u32

-- The bytes begin with the image of a value with P, of this length; or with none.
abbrev pub BeginsWith : {C : Type 0} → Format C → (C → Type 0) → List ℕ → Option (C × ℕ) → Type 0
BeginsWith {C} F P bytes None = (c : C) (rest : List ℕ) → F.Is c → P c → bytes ≡ F.image c ++ rest → ⊥
BeginsWith F P bytes (Some found) =
    F.Is found.0 × P found.0 × (found.1 ≤ length bytes) × (take found.1 bytes ≡ F.image found.0)

-- whether this one comes after the last one, if there is one
abbrev pub is_behind : {A : Type 0} → (A → A → Bool) → List A → A → Bool
is_behind before [] next = true
is_behind before (x ∷ []) next = before x next
is_behind before (x ∷ y ∷ xs) next = is_behind before (y ∷ xs) next

-- the number of the last object, 0 if there is none
abbrev pub last_number : List (ℕ × ObjectValue) → ℕ
last_number [] = 0
last_number (o ∷ []) = o.0
last_number (o ∷ p ∷ os) = last_number (p ∷ os)

-- an object with the cells that were read
abbrev pub object_so_far : OpenObject → ℕ × ObjectValue
object_so_far o = (o.number, record { class = o.class; cells = o.cells.items })

-- the bytes that were read of an object
abbrev pub object_taken : OpenObject → List ℕ
object_taken o =
    object_head.image (o.number, (o.class, length o.cells.items + o.left)) ++ flat_map cell.image o.cells.items

abbrev pub taken_at_hand : Option OpenObject → List ℕ
taken_at_hand None = []
taken_at_hand (Some o) = object_taken o

abbrev pub count_at_hand : Option OpenObject → ℕ
count_at_hand None = 0
count_at_hand (Some o) = 1

-- how many objects the image has
abbrev pub all_objects : OpenTable → ℕ
all_objects t = length t.table.objects + (count_at_hand t.object + t.left)

-- the bytes that were read of a table
abbrev pub table_taken : OpenTable → List ℕ
table_taken t =
    table_head.image (t.table.next, all_objects t)
    ++ (flat_map object.image t.table.objects ++ taken_at_hand t.object)

abbrev pub bytes_taken : Option OpenTable → List ℕ
bytes_taken None = []
bytes_taken (Some t) = table_taken t

-- what was read of an object has an image, and the object may come after the last one
pub record IsOpenObject (last next : ℕ) (o : OpenObject) : Type 0 where
  pub is : object.Is (object_so_far o)
  pub above : last < o.number
  pub used : o.number < next
  pub few : length o.cells.items + o.left < 2 ^ 32

abbrev pub IsAtHand : ℕ → ℕ → Option OpenObject → Type 0
IsAtHand last next None = Unit {0}
IsAtHand last next (Some o) = IsOpenObject last next o

-- what was read of a table has an image: a table, and maybe one more object
pub record IsOpenTable (t : OpenTable) : Type 0 where
  pub is : table.Is t.table
  pub last : t.last ≡ last_number t.table.objects
  pub few : all_objects t < 2 ^ 32
  pub at_hand : IsAtHand t.last t.table.next t.object

-- an object is current as long as cells of it are left
abbrev pub HasCellsLeft : Option OpenObject → Type 0
HasCellsLeft None = Unit {0}
HasCellsLeft (Some o) = 0 < o.left

abbrev pub IsBetweenParts : OpenTable → Type 0
IsBetweenParts t = IsOpenTable t × HasCellsLeft t.object

abbrev pub IsReader : Option OpenTable → Type 0
IsReader None = Unit {0}
IsReader (Some t) = IsBetweenParts t

-- the table with this current object
abbrev pub with_at_hand : OpenObject → OpenTable → OpenTable
with_at_hand o t = record t { object = Some o }

-- Of the bytes that follow those consumed before, the first n are consumed, too.
pub record ConsumesNext (old new bytes : List ℕ) (n : ℕ) : Type 0 where
  pub within : n ≤ length bytes
  pub taken : new ≡ old ++ take n bytes

-- All of them are consumed if they end the image of a table.
abbrev pub TakesEnd : List ℕ → List ℕ → ℕ → Type 0
TakesEnd old bytes n = (t : TableValue) → table.Is t → old ++ bytes ≡ table_image t → n ≡ length bytes

-- what one step consumes: a part, or nothing if the bytes begin with none that may come
pub record TakesPart (old new : OpenTable) (bytes : List ℕ) (n : ℕ) : Type 0 where
  pub takes : ConsumesNext (table_taken old) (table_taken new) bytes n
  pub none : n ≡ 0 → TakesEnd (table_taken old) bytes 0

-- The beginning of an image: the head of a table, of which no object was read, with its length; or none.
abbrev pub BeginsTable : List ℕ → Option (OpenTable × ℕ) → Type 0
BeginsTable bytes None = (t : TableValue) → table.Is t → bytes ≡ table_image t → ⊥
BeginsTable bytes (Some begun) =
    IsBetweenParts begun.0 × (begun.1 ≤ length bytes) × (take begun.1 bytes ≡ table_taken begun.0)
