use Rattle.std.proofs.Common.{None, Some, refl, sym, ◌∙◌}
use Rattle.oa_idl.specs.declared.items.Item.{Item}
use Rattle.oa_sema.specs.promise.Libraries.{same, item_guid}
use Rattle.oa_typelib.proofs.Finds.{default_by_place}
use Rattle.oa_typelib.proofs.library.Library.default_interface.Goals as goal

pub returns-in_err-place : goal.returns-in_err-place
returns-in_err-place c =
    rw c.from_residual.ensures (sym (default_by_place c.args.self.now.items (λ (i : Item). same c.args.class.now (item_guid i)) None None c.in_err-place.ensures
    refl))

pub returns-in_err-default : goal.returns-in_err-default
returns-in_err-default c =
    rw c.from_residual-in_err-default.ensures
    (sym (default_by_place c.args.self.now.items (λ (i : Item). same c.args.class.now (item_guid i)) (Some c.in_ok-place.place) None c.in_ok-place.ensures
    c.in_err-default.ensures))

pub returns : goal.returns
returns c =
    c.interface_at.ensures
    ∙ sym (default_by_place c.args.self.now.items (λ (i : Item). same c.args.class.now (item_guid i)) (Some c.in_ok-place.place)
    (Some c.in_ok-default.default) c.in_ok-place.ensures c.in_ok-default.ensures)
