-- Definitions for contracts and proofs, beside promise/Answers.
use Rattle.std.specs.Prelude.{◌≡◌, ◌<◌, ◌≤◌, ℕ, List, ◌++◌, length, Option, Some, None, Result, Ok, Err}
use Rattle.std.specs.Global.{Vec}
use Rattle.oa_ndr.specs.promise.Reading.{Cursor}
use Rattle.oa_formats.specs.declared.fault.ReadFault.{ReadFault}
use Rattle.oa_formats.specs.declared.fault.ReadFault.TheVariants as reads
use Rattle.oa_formats.specs.declared.fault.ImageFault.{ImageFault}
use Rattle.oa_formats.specs.declared.fault.ImageFault.TheVariants.{Damaged, Memory}
use Rattle.oa_formats.specs.promise.Formats.{Format}
use Rattle.oa_formats.specs.promise.Answers.{IsRow}

-- A call returned the value that the bytes encode, and moved the reader accordingly, unless an allocation failed.
abbrev pub ReadsImage : {A : Type 0} → Result A ReadFault → Cursor → Option (A × Cursor) → Type 0
ReadsImage (Ok x) new read = read ≡ Some (x, new)
ReadsImage (Err reads.Broken) new read = read ≡ None
ReadsImage (Err reads.Memory) new read = Unit {0}

-- the same for a view of the value
abbrev pub ReadsImageBy : {A B : Type 0} → (A → B) → Result A ReadFault → Cursor → Option (B × Cursor) → Type 0
ReadsImageBy view (Ok x) new read = read ≡ Some (view x, new)
ReadsImageBy view (Err reads.Broken) new read = read ≡ None
ReadsImageBy view (Err reads.Memory) new read = Unit {0}

-- the fault of a part as that of the whole image
abbrev pub placed : ReadFault → ℕ → ImageFault
placed reads.Broken place = Damaged place
placed reads.Memory place = Memory

-- if the bytes begin with the image of a value, the place is that of the first byte after it
abbrev pub IsFirstLeft : {C : Type 0} → Format C → List ℕ → ℕ → Type 0
IsFirstLeft {C} F bytes place =
    (c : C) (rest : List ℕ) → F.Is c → bytes ≡ F.image c ++ rest → place ≡ length (F.image c)

-- The result of reading exactly these bytes: the value whose image they are, or Damaged, at a place among them, if
-- they are the image of none.
abbrev pub ReadsWholeImage : {C : Type 0} → Format C → List ℕ → Result C ImageFault → Type 0
ReadsWholeImage F bytes (Ok x) = F.Is x × (bytes ≡ F.image x)
ReadsWholeImage {C} F bytes (Err (Damaged place)) =
    ((c : C) → F.Is c → bytes ≡ F.image c → ⊥) × (place ≤ length bytes) × IsFirstLeft F bytes place
ReadsWholeImage F bytes (Err Memory) = Unit {0}

-- no value has an image without bytes
abbrev pub HasBytes : {C : Type 0} → Format C → Type 0
HasBytes {C} F = (c : C) → F.Is c → 0 < length (F.image c)

-- The result of reading such a list.
abbrev pub IsRowReading : {C : Type 0} → Format C → List ℕ → Result (Vec C) ImageFault → Type 0
IsRowReading F bytes (Ok v) = IsRow F bytes v.items
IsRowReading {C} F bytes (Err (Damaged place)) = ((xs : List C) → IsRow F bytes xs → ⊥) × (place ≤ length bytes)
IsRowReading F bytes (Err Memory) = Unit {0}
