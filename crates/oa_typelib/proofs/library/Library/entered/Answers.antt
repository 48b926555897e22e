use Rattle.std.proofs.Common.{slice_get, position, None, Some, refl, ◌∙◌}
use Rattle.std.specs.Option.{option_and_then}
use Rattle.oa_idl.specs.declared.items.Item.{Item}
use Rattle.oa_sema.specs.promise.Libraries.{same, item_guid, as_class}
use Rattle.oa_typelib.proofs.Finds.{by_places, never}
use Rattle.oa_typelib.proofs.library.Library.entered.Goals as goal

pub returns-in_err-class : goal.returns-in_err-class
returns-in_err-class c = c.from_residual.ensures ∙ by_places c.args.self.now c.args.class.now c.args.interface.now None
    (position (λ (i : Item). same c.args.interface.now (item_guid i)) c.args.self.now.items) c.in_err-class.ensures refl

pub returns-in_err-place : goal.returns-in_err-place
returns-in_err-place c =
    c.from_residual-in_err-place.ensures ∙ never (option_and_then as_class (slice_get c.args.self.now.items c.in_ok-class.class))
    ∙ by_places c.args.self.now c.args.class.now c.args.interface.now (Some c.in_ok-class.class) None c.in_ok-class.ensures c.in_err-place.ensures

pub returns : goal.returns
returns c = c.entered_at.ensures ∙ by_places c.args.self.now c.args.class.now c.args.interface.now (Some c.in_ok-class.class)
    (Some c.in_ok-place.place) c.in_ok-class.ensures c.in_ok-place.ensures
