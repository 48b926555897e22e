use Rattle.std.proofs.Common.{◌≡◌, ℕ, List, length, subst, arith}
use Rattle.oa_image.proofs.InMemory as law
use Rattle.oa_image.proofs.laws.is_object.Goals as goal

pub returns : goal.returns
returns c =
    let class = subst (λ (id : List ℕ). length id ≡ 16) c.class.ensures c.is_guid.ensures in
    law.is_object c.args.number c.args.object.now (omega arith) class c.places_rise.ensures c.are_cells.ensures c.requires
