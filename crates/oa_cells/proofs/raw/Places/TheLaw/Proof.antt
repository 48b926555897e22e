-- A `&` to the places shows each value in them. Assumes `Logic`.
use mathlib.Core.List.{[], ◌++◌}
use base.Fml.{Incl-trans}
use contract.BorrowLft.{meet_⊑_left}
use denote.RattleType.{RattleType}
use denote.RawPtr.{RawPtr}
use denote.Param.Laws.{Laws}
use denote.Param.Shared.{copy_shared}
use denote.Struct.Laws.{field_copy}
use denote.Struct.Lending.{of_Lends}
use Rattle.core.specs.contracts.marker.PhantomData as phantom
use Rattle.oa_cells.specs.contracts.raw.Places as P
use Rattle.oa_cells.proofs.raw.Places.TheLaw.Statement.{statement}
use Rattle.oa_cells.proofs.Lending.{places_laws, places_lend}

pub shares : (R : RattleType) (L : Laws R) → statement R L
shares R L =
    let codes = P.the_codes R.Denot R.coded (phantom.the_row RawPtr).coded in
    of_Lends (P.struct R) codes (P.the_heap R) (P.the_lent R)
    (λ p place. places_laws R L.shr_laws p.at p.slots) (copy_shared (phantom.the_field RawPtr) (field_copy (phantom.the_type RawPtr) tt), tt)
    (λ M 𝓤 𝓛 p place. places_lend 𝓛 (P.the_row R).lives R L (Incl-trans (meet_⊑_left (R.lives ++ []) _) (meet_⊑_left R.lives [])) p.at p.slots)
