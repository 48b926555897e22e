use Rattle.std.proofs.Common.{None, Some, sym, ◌∙◌}
use Rattle.oa_idl.specs.declared.items.Item.{Item}
use Rattle.oa_sema.specs.promise.Libraries.{same, item_guid, as_interface}
use Rattle.oa_typelib.proofs.Finds.{found_by_place}
use Rattle.oa_typelib.proofs.library.Library.interface.Goals as goal

pub returns-in_err-place : goal.returns-in_err-place
returns-in_err-place c =
    rw c.from_residual.ensures (sym (found_by_place as_interface (λ (i : Item). same c.args.guid.now (item_guid i)) c.args.self.now.items None
    c.in_err-place.ensures))

pub returns : goal.returns
returns c = c.interface_at.ensures
    ∙ sym (found_by_place as_interface (λ (i : Item). same c.args.guid.now (item_guid i)) c.args.self.now.items
    (Some c.in_ok-place.place) c.in_ok-place.ensures)
