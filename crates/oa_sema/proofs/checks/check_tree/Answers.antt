use Rattle.std.proofs.Common.{◌≡◌, map, ◌∙◌}
use Rattle.std.specs.Option.{option_map, option_or}
use Rattle.oa_model.specs.promise.Folding.{folded_name}
use Rattle.oa_sema.specs.declared.checks.Checked.{Checked}
use Rattle.oa_sema.specs.declared.fault.CheckError.TheVariants.{UnknownInterface}
use Rattle.oa_sema.specs.promise.Breaches.{key_breaches, interface_breach, form_breaches, tree_breach}
use Rattle.oa_sema.specs.promise.Libraries.{item_name, item_guid}
use Rattle.oa_sema.proofs.Passes.{refused, for_memory}
use Rattle.oa_sema.proofs.Passes.{no_breach_before}
use Rattle.oa_sema.proofs.checks.check_tree.Goals as goal

pub returns-in_err-check_contents : goal.returns-in_err-check_contents
returns-in_err-check_contents c =
    let t = c.args.tree.now in
    refused (tree_breach t) (λ (k : Checked). (k.names ≡ map (λ i. folded_name (item_name i)) t.items) × (k.guids ≡ map item_guid t.items))
    c.in_err-check_contents.field-0.0 c.from_residual-in_err-check_contents.result
    c.from_residual-in_err-check_contents.ensures.0 c.from_residual-in_err-check_contents.ensures.1
    (for_memory c.in_err-check_contents.field-0.0
    (λ h. no_breach_before (key_breaches t) (option_or (option_map UnknownInterface (interface_breach t.items)) (form_breaches t.items))
    c.in_ok-checked.ensures.0 ∙ h)
    c.in_err-check_contents.ensures)
