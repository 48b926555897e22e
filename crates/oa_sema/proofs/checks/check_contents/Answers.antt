use Rattle.std.proofs.Common.{List, Option, subst, sym, ap, ◌∙◌}
use Rattle.std.specs.Option.{option_map, option_or}
use Rattle.oa_idl.specs.declared.items.Item.{Item}
use Rattle.oa_sema.specs.declared.fault.CheckError.{CheckError}
use Rattle.oa_sema.specs.declared.fault.CheckError.TheVariants.{UnknownInterface}
use Rattle.oa_sema.specs.Breaches.{RefusesBreach}
use Rattle.oa_sema.specs.promise.Breaches.{interface_breach, form_breaches}
use Rattle.oa_sema.proofs.Passes.{refused, for_memory}
use Rattle.oa_sema.proofs.Passes.{breach_before, no_breach_before}
use Rattle.oa_sema.proofs.checks.check_contents.Goals as goal

pub returns-in_err-check_interfaces : goal.returns-in_err-check_interfaces
returns-in_err-check_interfaces c =
    let t = c.args.tree.now in
    let items = c.items_of-items.ensures in
    refused (option_or (option_map UnknownInterface (interface_breach t.items)) (form_breaches t.items)) (λ _. Unit {0}) c.in_err-check_interfaces.field-0.0
    c.from_residual.result
    c.from_residual.ensures.0 c.from_residual.ensures.1
    (for_memory c.in_err-check_interfaces.field-0.0
    (λ h. breach_before (option_map UnknownInterface (interface_breach t.items)) (form_breaches t.items) c.in_err-check_interfaces.field-0.0
    (ap (λ (xs : List Item). option_map UnknownInterface (interface_breach xs)) (sym items) ∙ h))
    c.in_err-check_interfaces.ensures)

pub returns : goal.returns
returns c =
    let t = c.args.tree.now in
    let items = c.items_of-items.ensures in
    let none = ap (λ (xs : List Item). option_map UnknownInterface (interface_breach xs)) (sym items) ∙ c.in_ok-check_interfaces.ensures.0 in
    subst (λ (o : Option CheckError). RefusesBreach o (λ (_ : Unit {0}). Unit {0}) c.check_form_kinds.result)
    (ap form_breaches items ∙ sym (no_breach_before (option_map UnknownInterface (interface_breach t.items)) (form_breaches t.items) none))
    c.check_form_kinds.ensures
