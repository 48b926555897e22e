use Rattle.std.proofs.Common.{Option, ℕ, slice_get, ap, sym, ◌∙◌}
use Rattle.std.specs.Option.{option_and_then, option_map}
use Rattle.oa_idl.specs.promise.Values.{InterfaceValue}
use Rattle.oa_sema.specs.promise.Libraries.{as_interface}
use Rattle.oa_compat.proofs.lost.default_before.Goals as goal
use Rattle.oa_compat.proofs.Searches as searches

pub returns-in_err-default : goal.returns-in_err-default
returns-in_err-default c =
    c.from_residual.ensures
    ∙ sym
    (searches.default_before c.args.old.now.items (slice_get c.args.old.now.items c.args.place)
    ∙ ap (λ (o : Option ℕ). option_map (λ (i : InterfaceValue). i.guid) (option_and_then as_interface (option_and_then (slice_get c.args.old.now.items) o)))
    (sym c.in_err-default.ensures))

pub returns : goal.returns
returns c =
    c.guid_of.ensures ∙ ap (option_map (λ (i : InterfaceValue). i.guid)) c.interface_at.ensures
    ∙ sym
    (searches.default_before c.args.old.now.items (slice_get c.args.old.now.items c.args.place)
    ∙ ap (λ (o : Option ℕ). option_map (λ (i : InterfaceValue). i.guid) (option_and_then as_interface (option_and_then (slice_get c.args.old.now.items) o)))
    (sym c.in_ok-default.ensures))
