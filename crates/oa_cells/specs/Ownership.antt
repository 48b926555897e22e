-- The memory that the parts of a block own and lend, for values of the row type R.
use Rattle.std.specs.Prelude.{ℕ, zero, suc, ◌+◌, ◌*◌, ◌^◌, List, [], ◌∷◌, length, Option, Some, None}
use Rattle.std.specs.Mem.{type_size}
use base.Fraction.{full_share}
use base.Fml.{Lft, Fml, ftrue, ffalse, fsep, flt, froom}
use mir.Syntax.{Ty, ty_array}
use mir.Raw.{raw}
use denote.RattleType.{RattleType}
use denote.Memory.{lone, part_at, shared_of}
use denote.Sharing.{nothing, said, beside}
use denote.RawPtr.{Ptr, block_ptr, null_ptr}

module _ (R : RattleType) where
  module _ (block : ℕ) where
    -- The place that begins at byte o of the block: uninitialized bytes, or a whole value.
    abbrev pub place_owned : ℕ → Option R.Denot → Fml
    place_owned o None = froom (raw (lone R.mir)) block o
    place_owned o (Some x) = part_at R full_share x block o

    -- One place after another, from byte o on.
    abbrev pub row_owned : ℕ → List (Option R.Denot) → Fml
    row_owned o [] = ftrue
    row_owned o (slot ∷ slots) = fsep (place_owned o slot) (row_owned (o + type_size R) slots)

    -- All places from byte o on, except the one at the index i.
    abbrev pub row_without : ℕ → ℕ → List (Option R.Denot) → Fml
    row_without zero o (slot ∷ slots) = row_owned (o + type_size R) slots
    row_without zero o [] = ftrue
    row_without (suc i) o [] = ftrue
    row_without (suc i) o (slot ∷ slots) = fsep (place_owned o slot) (row_without i (o + type_size R) slots)

    -- The part of one place, and of all, that a shared reference to the places may read.
    abbrev pub place_lent : ℕ → Option R.Denot → Lft → Fml
    place_lent o None = nothing
    place_lent o (Some x) = shared_of R x block o

    abbrev pub row_lent : ℕ → List (Option R.Denot) → Lft → Fml
    row_lent o [] = nothing
    row_lent o (slot ∷ slots) = beside (place_lent o slot) (row_lent (o + type_size R) slots)

  -- The block has fewer than 2 ^ 63 bytes, so that a word can count its places.
  abbrev pub bounded : List (Option R.Denot) → Fml
  bounded slots = flt (length slots * type_size R) (2 ^ 63)

  -- The places of a block; a block never begins at null.
  abbrev pub places_owned : Ptr → List (Option R.Denot) → Fml
  places_owned (block_ptr block o) slots = fsep (bounded slots) (row_owned block o slots)
  places_owned null_ptr slots = ffalse

  abbrev pub places_lent : Ptr → List (Option R.Denot) → Lft → Fml
  places_lent (block_ptr block o) slots = beside (said (bounded slots)) (row_lent block o slots)
  places_lent null_ptr slots = said ffalse

  -- The allocator's token for a block of n places.
  abbrev pub freeing : (Ty → Ptr → Fml) → Ptr → ℕ → Fml
  freeing token at n = token (raw (ty_array (lone R.mir) n)) at
