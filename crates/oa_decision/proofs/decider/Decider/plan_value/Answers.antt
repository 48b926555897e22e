use Rattle.std.proofs.Common.{rules, ◌≡◌, ℤ, Option, to_z, of_z, w32, sym, ◌∙◌, subst}
use Rattle.std.specs.Prelude.{IfSome}
use Rattle.oa_coerce.specs.promise.Answers.{coerced}
use Rattle.oa_record.specs.ValueCalls.{bringing}
use Rattle.oa_record.specs.declared.opcode.ByCall.TheVariants.{Invoke}
use Rattle.oa_record.specs.declared.request.Request.TheVariants.{ByCall}
use Rattle.oa_typelib.specs.declared.access.Access.TheVariants.{Flags}
use Rattle.oa_typelib.specs.declared.access.Kind.{Kind}
use Rattle.oa_typelib.specs.declared.access.Kind.TheVariants as forms
use Rattle.oa_variant.specs.declared.variant.Variant.{Variant}
use Rattle.oa_decision.specs.Cells.{IsKeyless}
use Rattle.oa_decision.specs.ValuePlans.{PlansGet, PlansPut, PlansValue, keyless_cell}
use Rattle.oa_decision.proofs.Bringing.{answered, plans_get, puts}
use Rattle.oa_decision.proofs.decider.Decider.plan_value.Goals as goal

pub returns-in-None : goal.returns-in-None
returns-in-None c =
    let state = c.args.self.now in
    let head = c.args.head.now in
    let i = c.in_ok-interface.interface in
    let live = rw (answered c.find_object.result c.in_ok-object.object (sym c.ok.ensures.value ∙ c.in_ok-object.was)) at c.find_object.ensures.live in
    let found = sym (c.find_interface_of.ensures head.object live) ∙ answered c.find_interface_of.result i (sym c.ok-2.ensures.value ∙ c.in_ok-interface.was) in
    let declared = c.in_ok-declared.declared in
    let plan = c.plan_get.result in
    let same : to_z w32 (of_z w32 head.dispid) ≡ head.dispid = search rules in
    let is = subst (λ (z : ℤ). IsKeyless i z (Flags head.flags) declared forms.Get) same
    (subst (λ (k : Kind). IsKeyless i (to_z w32 (of_z w32 head.dispid)) (Flags head.flags) declared k) c.in-Get.is c.in_ok-declared.ensures.found) in
    let plans : PlansGet state c.args.tag (keyless_cell head.object i.guid head.dispid) declared plan = search (rules, c.plan_get.ensures) in
    subst (λ (v : Option Variant). PlansValue state c.args.tag (ByCall Invoke (bringing head v)) plan) (sym c.in-None.is)
    (plans_get state head i declared found c.args.tag plan is plans)

pub returns : goal.returns
returns c =
    let state = c.args.self.now in
    let head = c.args.head.now in
    let i = c.in_ok-interface.interface in
    let live = rw (answered c.find_object.result c.in_ok-object.object (sym c.ok.ensures.value ∙ c.in_ok-object.was)) at c.find_object.ensures.live in
    let found = sym (c.find_interface_of.ensures head.object live) ∙ answered c.find_interface_of.result i (sym c.ok-2.ensures.value ∙ c.in_ok-interface.was) in
    let declared = c.in_ok-declared.declared in
    let plan = c.plan_put.result in
    let argument = c.in_ok-value-in-Put.field-0 in
    let same : to_z w32 (of_z w32 head.dispid) ≡ head.dispid = search rules in
    let is = subst (λ (z : ℤ). IsKeyless i z (Flags head.flags) declared forms.Put) same
    (subst (λ (k : Kind). IsKeyless i (to_z w32 (of_z w32 head.dispid)) (Flags head.flags) declared k) c.in-Put.is c.in_ok-declared.ensures.found) in
    let plans : IfSome plan (PlansPut head.object i.guid head.dispid (coerced argument declared)) = search (rules, c.plan_put.ensures) in
    subst (λ (v : Option Variant). IfSome plan (PlansValue state c.args.tag (ByCall Invoke (bringing head v)))) (sym c.in_ok-value-in-Put.was)
    (puts state head i declared found c.args.tag argument plan is plans)
