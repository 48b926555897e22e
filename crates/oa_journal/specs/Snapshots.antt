-- What reads of a snapshot in stretches find. (This project's choice.)
use Rattle.std.specs.Prelude.{◌≡◌, ℕ, ◌+◌, ◌-◌, ◌<◌, ◌≤◌, IsTrue, List, [], ◌++◌, length}
use Rattle.oa_disk.specs.Disk.{HasBytesAt}
use Rattle.oa_disk.specs.declared.disk.Disk.{Ghosts}
use Rattle.oa_image.specs.promise.Tables.{table, table_image}
use Rattle.oa_table.specs.promise.Tables.{TableValue}

-- how many bytes of a snapshot are read at once, unless a part of it is longer
abbrev pub stretch_bytes : ℕ
stretch_bytes = 131072

-- The bytes that were there are followed by `count` bytes of a disk.
pub record ReadsBehind {D : Type 0} (g : Ghosts D) (at count : ℕ) (before after : List ℕ) (old new : D) : Type 0 where
  pub more : List ℕ
  pub behind : after ≡ before ++ more
  pub long : length more ≡ count
  pub there : IsTrue (g.is_honest new) → HasBytesAt (g.contents old) at more

-- A stretch of the bytes before an end was read: it follows the bytes that a reader had consumed and those of its
-- window. If the reader then has a whole table, the window is empty.
pub record PassesStretch {D : Type 0} (g : Ghosts D) (end left : ℕ) (before taken window : List ℕ) (old new : D)
    (next : ℕ) : Type 0 where
  pub reads : ReadsBehind g (end - left) (left - next) before (taken ++ window) old new
  pub nearer : next < left
  pub far : 0 < next → next + stretch_bytes ≤ left
  pub whole : (first : TableValue) → table.Is first → taken ++ window ≡ table_image first → window ≡ []

-- These bytes of the disk are the encoding of this table.
pub record FindsSnapshot {D : Type 0} (g : Ghosts D) (at count : ℕ) (old new : D) (first : TableValue) : Type 0 where
  pub is : table.Is first
  pub long : length (table_image first) ≡ count
  pub there : IsTrue (g.is_honest new) → HasBytesAt (g.contents old) at (table_image first)

-- These bytes of the disk are the encoding of no table.
pub record HasNoImage (disk : List ℕ) (at count : ℕ) : Type 0 where
  pub bytes : List ℕ
  pub long : length bytes ≡ count
  pub there : HasBytesAt disk at bytes
  pub none : (first : TableValue) → table.Is first → bytes ≡ table_image first → ⊥
