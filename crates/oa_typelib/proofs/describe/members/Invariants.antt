use Rattle.std.proofs.Common.{◌≡◌, ℕ, map, take, slice_get, Vec, Global}
use Rattle.std.specs.List.{filter_map, flat_map}
use Rattle.oa_sema.specs.promise.Declarations.{declarations}
use Rattle.oa_typelib.specs.promise.Descriptions.{member_description, put_last}
use Rattle.oa_typelib.proofs.describe.members.Given as goal

abbrev pub invariant-loop-places : goal.invariant-loop-places
invariant-loop-places l =
    l.members.items ≡ map member_description
    (flat_map (λ (ps : Vec ℕ Global). put_last (filter_map (slice_get (declarations l.interface)) ps.items)) (take l.places-index l.groups))
