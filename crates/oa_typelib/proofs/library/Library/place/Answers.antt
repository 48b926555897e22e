use Rattle.std.proofs.Common.{map, position, ap, ◌∙◌}
use Rattle.oa_idl.specs.promise.Trees.{TreeValue}
use Rattle.oa_sema.specs.promise.Libraries.{same, item_guid}
use Rattle.oa_sema.proofs.Lists.{position-map}
use Rattle.oa_typelib.proofs.library.Library.place.Goals as goal

pub returns : goal.returns
returns c =
    c.place.ensures ∙ ap (position (same c.args.guid.now)) (c.self.invariant.0.0 ∙ ap (λ (t : TreeValue). map item_guid t.items) c.self.view_is)
    ∙ position-map item_guid (same c.args.guid.now) c.args.self.now.items
