use Rattle.std.proofs.Common.{None, Some, sym, ap, ◌∙◌, is_some}
use Rattle.oa_sema.proofs.Passes.{interface_by_key, some_copied}
use Rattle.oa_sema.proofs.checks.is_interface.Goals as goal

pub returns-in_default : goal.returns-in_default
returns-in_default c =
    ap is_some (sym (interface_by_key c.args.items.now c.args.names.now c.args.name.now c.as_slice.result.now None c.requires
    (c.as_slice.ensures.value ∙ c.in_ok-folded.ensures) c.in_default.ensures))

pub returns : goal.returns
returns c =
    let e = interface_by_key c.args.items.now c.args.names.now c.args.name.now c.as_slice.result.now (Some c.in-Some.place) c.requires
    (c.as_slice.ensures.value ∙ c.in_ok-folded.ensures) c.in-Some.ensures in
    c.is_some.ensures ∙ sym (some_copied c.interface_at.result) ∙ ap is_some (c.interface_at.ensures ∙ sym e)
