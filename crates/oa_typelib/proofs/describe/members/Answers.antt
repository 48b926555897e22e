use Rattle.std.proofs.Common.{ap, map, ◌∙◌, Vec, Global, ℕ, slice_get}
use Rattle.std.proofs.lemmas.List.{take_all}
use Rattle.std.specs.List.{filter_map, flat_map}
use Rattle.oa_sema.specs.promise.Declarations.{declarations}
use Rattle.oa_typelib.specs.promise.Descriptions.{member_description, put_last}
use Rattle.oa_typelib.proofs.Looks.{in_order}
use Rattle.oa_typelib.proofs.describe.members.Goals as goal

pub returns : goal.returns
returns c =
    c.loop-places.invariant
    ∙ ap (map member_description)
    (ap (flat_map (λ (ps : Vec ℕ Global). put_last (filter_map (slice_get (declarations c.args.interface.now)) ps.items)))
    (take_all c.loop-places.places-index c.groups-groups.result.now c.loop-places-test.false)
    ∙ in_order c.args.interface.now c.groups-groups.result.now c.groups-groups.ensures)
