-- A `&` to the places is made of `&`s to the values in them, place by place. Assumes `Logic`.
use Prim.Native.Nat.{ℕ, ◌+◌}
use Rattle.std.specs.Prelude.{List, [], ◌∷◌, Option, Some, None}
use Rattle.std.specs.Mem.{type_size}
use seplogic.Ra.Ura.{Ura}
use base.Fml.{Lft, Incl, ftrue, ffalse}
use types.Logic.{Logic}
use denote.RattleType.{RattleType, RowLaws}
use denote.Param.Laws.{Laws}
use denote.RawPtr.{Ptr, block_ptr, null_ptr}
use denote.Sharing.{ShrLaws, said}
use denote.SharingLaws.{beside_shr_laws, nothing_shr_laws, said_shr_laws}
use denote.Shares.{Shares-less}
use denote.Struct.Lending.{Lends, Lends-both, Lends-nothing, Lends-said, Lends-false}
use Rattle.oa_cells.specs.Ownership.{place_owned, row_owned, place_lent, row_lent, bounded, places_owned, places_lent}

-- The content of a shared reference can be copied, and used at a shorter lifetime.
module _ (R : RattleType) (copies : RowLaws R) where
  row_laws : (block o : ℕ) (slots : List (Option R.Denot)) → ShrLaws (row_lent R block o slots)
  row_laws block o [] = nothing_shr_laws
  row_laws block o (None ∷ slots) = beside_shr_laws _ _ nothing_shr_laws (row_laws block (o + type_size R) slots)
  row_laws block o (Some x ∷ slots) = beside_shr_laws _ _ (copies x block o) (row_laws block (o + type_size R) slots)

  pub places_laws : (at : Ptr) (slots : List (Option R.Denot)) → ShrLaws (places_lent R at slots)
  places_laws null_ptr slots = said_shr_laws ffalse tt
  places_laws (block_ptr block o) slots = beside_shr_laws _ _ (said_shr_laws (bounded R slots) tt) (row_laws block o slots)

-- A borrow of the places becomes the content of the shared reference.
module _ {M : Type 1} {𝓤 : Ura M} (𝓛 : Logic 𝓤) (life : Lft) (R : RattleType) (laws : Laws R) (within : Incl life R.lives) where
  place_lends : (block o : ℕ) (slot : Option R.Denot) → Lends 𝓛 (place_owned R block o slot) (place_lent R block o slot) life
  place_lends block o None = Lends-nothing 𝓛 (place_owned R block o None) life
  place_lends block o (Some x) = λ κ tokens. Shares-less 𝓛 R R.lives life within (laws.shares 𝓛) x κ tokens block o

  row_lends : (block o : ℕ) (slots : List (Option R.Denot)) → Lends 𝓛 (row_owned R block o slots) (row_lent R block o slots) life
  row_lends block o [] = Lends-nothing 𝓛 ftrue life
  row_lends block o (slot ∷ slots) =
      let next = o + type_size R in
      Lends-both 𝓛 (place_owned R block o slot) (row_owned R block next slots) (place_lent R block o slot) (row_lent R block next slots) life
      (place_lends block o slot) (row_lends block next slots)

  pub places_lend : (at : Ptr) (slots : List (Option R.Denot)) → Lends 𝓛 (places_owned R at slots) (places_lent R at slots) life
  places_lend null_ptr slots = Lends-false 𝓛 (said ffalse) life
  places_lend (block_ptr block o) slots =
      Lends-both 𝓛 (bounded R slots) (row_owned R block o slots) (said (bounded R slots)) (row_lent R block o slots) life
      (Lends-said 𝓛 (bounded R slots) tt life) (row_lends block o slots)
