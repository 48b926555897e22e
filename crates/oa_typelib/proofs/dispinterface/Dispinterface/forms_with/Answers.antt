use Rattle.std.proofs.Common.{◌≡◌, ℤ, position, ap, sym, subst, slice_get, ◌∙◌}
use Rattle.std.proofs.Math.Facts.{to_z-of_z}
use Rattle.std.specs.List.{filter_map}
use Rattle.std.specs.Ordering.{int_eq}
use Rattle.oa_idl.specs.promise.Values.{InterfaceValue}
use Rattle.oa_sema.specs.promise.Declarations.{declarations}
use Rattle.oa_typelib.specs.Groups.{places_in}
use Rattle.oa_typelib.specs.IndexValues.{MembersValue}
use Rattle.oa_typelib.proofs.Looks.{with_id}
use Rattle.oa_typelib.proofs.dispinterface.Dispinterface.forms_with.Goals as goal

pub returns : goal.returns
returns c =
    let p = subst (λ (z : ℤ). c.places.result.now ≡ places_in (position (int_eq z) c.members.inside.by_id.keys) c.members.inside.by_id.places)
    (to_z-of_z c.ranges.id) c.places.ensures in
    rw (← c.self.view_is)
    (c.at.ensures
    ∙ ap (λ (i : InterfaceValue). filter_map (slice_get (declarations i)) c.places.result.now) (c.again.ensures ∙ sym c.self.view_is)
    ∙ ap (filter_map (slice_get (declarations c.self.inside.interface.now)))
    (p ∙ ap (λ (m : MembersValue). places_in (position (int_eq c.args.id) m.by_id.keys) m.by_id.places) c.members.view_is)
    ∙ with_id c.self.inside.members.now (declarations c.self.inside.interface.now) c.self.invariant.0 c.args.id)
