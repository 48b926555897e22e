use Rattle.std.proofs.Common.{IfSome, Option, slice_get, List, ap, sym, subst, ◌∙◌}
use Rattle.std.specs.Option.{option_and_then}
use Rattle.oa_idl.specs.promise.Values.{InterfaceValue}
use Rattle.oa_idl.specs.declared.items.Item.{Item}
use Rattle.oa_typelib.specs.Bindable.{AreSound}
use Rattle.oa_sema.specs.promise.Declarations.{declarations}
use Rattle.oa_sema.specs.promise.Libraries.{as_interface}
use Rattle.oa_typelib.proofs.Classes.{tree_whole}
use Rattle.oa_typelib.proofs.Found.{interface_at_sound}
use Rattle.oa_typelib.proofs.library.Library.interface_at.Goals as goal

pub of-requires-clause-sound : goal.of-requires-clause-sound
of-requires-clause-sound c =
    subst (λ (o : Option InterfaceValue). IfSome o (λ i. AreSound (declarations i)))
    (sym (c.in_ok-interface.ensures ∙ ap (λ (xs : List Item). option_and_then as_interface (slice_get xs c.args.place)) c.items.ensures))
    (interface_at_sound c.args.self.now.items c.args.place (tree_whole c.args.self.now c.is_checked.ensures).sound)
