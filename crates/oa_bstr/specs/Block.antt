-- A text in memory (MS-OAUT section 2.2.23, BSTR): one block with a 32-bit little-endian count of the bytes, the bytes,
-- and a 16-bit zero after them.
use Rattle.std.specs.Prelude.{◌≡◌, ℕ, ◌-◌, ◌≤◌, List, [], ◌∷◌, ◌++◌, map, length, take, drop, Option, Some}
use Rattle.std.specs.Int.{w32, to_le_bytes}
use Rattle.oa_cells.specs.Windows.{values}
use Rattle.oa_model.specs.promise.Limits.{max_text_bytes}

-- The bytes of the block of a text.
unfoldable pub block_of : List ℕ → List ℕ
block_of bytes = to_le_bytes w32 (length bytes) ++ (bytes ++ 0 ∷ 0 ∷ [])

-- The text in a block: the bytes between the 4 bytes of the count and the 2 of the zero.
abbrev pub block_text : List (Option ℕ) → List ℕ
block_text row = take (length (values row) - 6) (drop 4 (values row))

-- Each place of the block has a byte, and these bytes are the block of its text, which is at most `max_text_bytes`
-- long.
pub record IsBlock (row : List (Option ℕ)) : Type 0 where
  pub whole : row ≡ map Some (block_of (block_text row))
  pub short : length (block_text row) ≤ max_text_bytes
