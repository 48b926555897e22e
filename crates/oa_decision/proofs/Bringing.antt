-- An INVOKE that brings no more than a put's new value, of a property without parameters.
use Rattle.std.proofs.Common.{◌≡◌, inl, inr, ℕ, [], ◌∷◌, Option, Some, None, IfSome, is_ok, Result, Ok, Err, refl, sym, ap, ◌∙◌}
use Rattle.std.specs.Result.{result_ok}
use Rattle.oa_bind.specs.promise.Bindings.{bound_call}
use Rattle.oa_bind.specs.Given.{given_call}
use Rattle.oa_bind.specs.promise.Given.{argument_index, new_value_id}
use Rattle.oa_bind.specs.promise.Names.{complete, well_named}
use Rattle.oa_bind.specs.promise.Refusals.{any_at, each_at}
use Rattle.oa_coerce.specs.promise.Answers.{coerced}
use Rattle.oa_idl.specs.promise.Values.{InterfaceValue}
use Rattle.oa_model.specs.declared.var_type.ValueType.{ValueType}
use Rattle.oa_record.specs.ValueCalls.{bringing}
use Rattle.oa_record.specs.declared.request.CallHead.{CallHead}
use Rattle.oa_record.specs.declared.opcode.ByCall.TheVariants.{Invoke}
use Rattle.oa_record.specs.declared.request.Request.TheVariants.{ByCall}
use Rattle.oa_table.specs.declared.name.CellName.{CellName}
use Rattle.oa_typelib.specs.declared.access.Access.TheVariants.{Flags}
use Rattle.oa_typelib.specs.declared.access.Kind.TheVariants as forms
use Rattle.oa_variant.specs.declared.variant.Variant.{Variant}
use Rattle.oa_decision.specs.Cells.{IsKeyless}
use Rattle.oa_decision.specs.promise.Cells.{called_cell}
use Rattle.oa_decision.specs.promise.Interfaces.{interface_found}
use Rattle.oa_decision.specs.promise.Invoke.{cell_decided, invocation}
use Rattle.oa_decision.specs.promise.States.{State}
use Rattle.oa_decision.specs.ValuePlans.{PlansGet, PlansPut, PlansValue}
use Rattle.oa_decision.specs.declared.plan.ValuePlan.{ValuePlan}
use Rattle.oa_decision.specs.declared.plan.ValuePlan.TheVariants.{Answered, Put}
use Rattle.oa_decision.proofs.Found.{cell_found}

-- what was answered, where it is told without a fault
pub answered : {A E : Type 0} (r : Result A E) (x : A) → result_ok r ≡ Some x → r ≡ Ok x
answered (Ok y) x is = cc
answered (Err e) x is = absurd cc

-- without parameters there is no key
bound_get : (declared : ValueType) → bound_call [] declared forms.Get (given_call [] []) ≡ Ok (record { key = []; value = None })
unfolding bound_call well_named complete any_at each_at argument_index
bound_get declared = refl

bound_put : (declared : ValueType) (argument value : Variant) → coerced argument declared ≡ Ok value
    → bound_call [] declared forms.Put (given_call (new_value_id ∷ []) (argument ∷ [])) ≡ Ok (record { key = []; value = Some value })
unfolding bound_call well_named complete any_at each_at argument_index
bound_put declared argument value is = rw is refl

module _ (state : State) (head : CallHead) (interface : InterfaceValue) (declared : ValueType)
    (found : interface_found state head.object head.interface head.riid ≡ Ok interface) where
  abbrev cell : CellName
  cell = called_cell interface.guid head (record { key = []; value = None })

  decided_get : IsKeyless interface head.dispid (Flags head.flags) declared forms.Get
      → invocation state (bringing head None) ≡ Ok (cell_decided state (record { name = cell; declared = declared; value = None }))
  decided_get is =
      let at = bound_get is.member.value_type in
      rw (
        cell_found state (bringing head None) (Flags head.flags) interface is.member forms.Get (record { key = []; value = None }) found (sym is.found)
            (rw (is.keyless, at) refl),
        is.typed,
      ) refl

  decided_put : (argument value : Variant) → coerced argument declared ≡ Ok value → IsKeyless interface head.dispid (Flags head.flags) declared forms.Put
      → invocation state (bringing head (Some argument)) ≡ Ok (cell_decided state (record { name = cell; declared = declared; value = Some value }))
  decided_put argument value becomes is =
      let at = bound_put is.member.value_type argument value (rw is.typed becomes) in
      rw (cell_found state (bringing head (Some argument)) (Flags head.flags) interface is.member forms.Put (record { key = []; value = Some value }) found
      (sym is.found) (rw (is.keyless, at) refl)) refl

  pub plans_get : (tag : ℕ) (plan : ValuePlan) → IsKeyless interface head.dispid (Flags head.flags) declared forms.Get
      → PlansGet state tag cell declared plan → PlansValue state tag (ByCall Invoke (bringing head None)) plan
  plans_get tag (Answered reply) is (inl says) = inl (_, decided_get is, says)
  plans_get tag (Answered reply) is (inr wants) = inr (inl (inr (ap is_ok (decided_get is))), wants)
  plans_get tag (Put put) is none = absurd none

  plans_put : (tag : ℕ) (argument : Variant) (plan : ValuePlan) → IsKeyless interface head.dispid (Flags head.flags) declared forms.Put
      → PlansPut head.object interface.guid head.dispid (coerced argument declared) plan
      → PlansValue state tag (ByCall Invoke (bringing head (Some argument))) plan
  plans_put tag argument (Answered reply) is none = absurd none
  plans_put tag argument (Put put) is puts = (decided_put argument puts.0 puts.1 is ∙ rw puts.2 refl, puts.3)

  pub puts : (tag : ℕ) (argument : Variant) (plan : Option ValuePlan) → IsKeyless interface head.dispid (Flags head.flags) declared forms.Put
      → IfSome plan (PlansPut head.object interface.guid head.dispid (coerced argument declared))
      → IfSome plan (PlansValue state tag (ByCall Invoke (bringing head (Some argument))))
  puts tag argument None is none = tt
  puts tag argument (Some plan) is plans = plans_put tag argument plan is plans
