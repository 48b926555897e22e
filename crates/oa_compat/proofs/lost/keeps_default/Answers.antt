use Rattle.std.proofs.Common.{List, ℕ, Option, ap, ◌∙◌}
use Rattle.std.specs.Option.{option_and_then, option_eq, option_map}
use Rattle.oa_idl.specs.promise.Values.{InterfaceValue}
use Rattle.oa_idl.specs.declared.items.Item.{Item}
use Rattle.oa_compat.specs.promise.Keeps.{default_guid}
use Rattle.oa_sema.specs.promise.Libraries.{as_class, class_of, default_interface, same}
use Rattle.oa_compat.proofs.Searches.{default_now}
use Rattle.oa_compat.proofs.lost.keeps_default.Goals as goal

pub returns : goal.returns
returns c =
    c.eq.ensures
    ∙ ap (λ (o : Option (List ℕ)). option_eq same o c.guid_of-after.result)
    (c.default_before.ensures ∙ ap (λ (o : Option Item). option_and_then (default_guid c.args.old.now.items) (option_and_then as_class o)) c.requires.there)
    ∙ ap (option_eq same (default_guid c.args.old.now.items c.args.was.now))
    (c.guid_of-after.ensures ∙ ap (option_map (λ (i : InterfaceValue). i.guid))
    (c.default_interface.ensures ∙ ap (λ (g : List ℕ). option_and_then (default_interface c.args.new.now.items) (class_of c.args.new.now g))
    (ap (λ (k : _). k.guid) c.was.view_is))
    ∙ default_now c.args.new.now.items (class_of c.args.new.now c.args.was.now.guid) c.args.now.now c.requires.found)
