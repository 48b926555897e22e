-- A `&` to the right to free shows nothing. Assumes `Logic`.
use denote.RattleType.{RattleType}
use denote.RawPtr.{RawPtr}
use denote.Param.Laws.{Laws}
use denote.Param.Shared.{copy_shared}
use denote.SharingLaws.{nothing_shr_laws}
use denote.Struct.Laws.{field_copy}
use denote.Struct.Lending.{of_Lends, Lends-nothing}
use Rattle.core.specs.declared.alloc.Allocator.{Ghosts}
use Rattle.core.specs.contracts.marker.PhantomData as phantom
use Rattle.oa_cells.specs.contracts.raw.FreeRight as F
use Rattle.oa_cells.proofs.raw.FreeRight.TheLaw.Statement.{statement}

pub shares : (R A : RattleType) (g : Ghosts A.Denot) (L : Laws R) (LA : Laws A) → statement R A g L LA
shares R A g L LA =
    let codes = F.the_codes R.Denot A.Denot R.coded A.coded (phantom.the_row RawPtr).coded in
    of_Lends (F.struct R A g) codes (F.the_heap R A g) (F.the_lent R A g)
    (λ right place. nothing_shr_laws) (copy_shared (phantom.the_field RawPtr) (field_copy (phantom.the_type RawPtr) tt), tt)
    (λ M 𝓤 𝓛 right place. Lends-nothing 𝓛 (F.the_heap R A g right) (F.the_row R A g).lives)
