use Rattle.std.proofs.Common.{position, ap, sym, slice_get, ◌∙◌}
use Rattle.std.specs.List.{filter_map}
use Rattle.oa_idl.specs.promise.Values.{InterfaceValue}
use Rattle.oa_sema.specs.promise.Declarations.{declarations}
use Rattle.oa_typelib.specs.Groups.{places_in}
use Rattle.oa_typelib.specs.IndexValues.{MembersValue}
use Rattle.oa_sema.specs.promise.Libraries.{same}
use Rattle.oa_typelib.proofs.Looks.{with_name}
use Rattle.oa_typelib.proofs.dispinterface.Dispinterface.forms_named.Goals as goal

pub returns : goal.returns
returns c =
    rw (← c.self.view_is)
    (c.at.ensures
    ∙ ap (λ (i : InterfaceValue). filter_map (slice_get (declarations i)) c.places.result.now) (c.again.ensures ∙ sym c.self.view_is)
    ∙ ap (filter_map (slice_get (declarations c.self.inside.interface.now)))
    (c.places.ensures ∙ ap (λ (m : MembersValue). places_in (position (same c.args.name.now) m.by_name.keys) m.by_name.places) c.members.view_is)
    ∙ with_name c.self.inside.members.now (declarations c.self.inside.interface.now) c.self.invariant.0 c.args.name.now)
