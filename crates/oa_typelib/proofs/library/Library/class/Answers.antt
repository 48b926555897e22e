use Rattle.std.proofs.Common.{slice_get, None, Some, sym, ap, ◌∙◌}
use Rattle.std.specs.Option.{option_and_then}
use Rattle.oa_idl.specs.declared.items.Item.{Item}
use Rattle.oa_sema.specs.promise.Libraries.{same, item_guid, as_class}
use Rattle.oa_typelib.proofs.Finds.{found_by_place}
use Rattle.oa_typelib.proofs.library.Library.class.Goals as goal

pub returns-in_err-place : goal.returns-in_err-place
returns-in_err-place c =
    rw c.from_residual.ensures (sym (found_by_place as_class (λ (i : Item). same c.args.guid.now (item_guid i)) c.args.self.now.items None
    c.in_err-place.ensures))

pub returns : goal.returns
returns c = c.class_at.ensures ∙ ap (λ xs. option_and_then as_class (slice_get xs c.in_ok-place.place)) c.items.ensures
    ∙ sym (found_by_place as_class (λ (i : Item). same c.args.guid.now (item_guid i)) c.args.self.now.items (Some c.in_ok-place.place) c.in_ok-place.ensures)
