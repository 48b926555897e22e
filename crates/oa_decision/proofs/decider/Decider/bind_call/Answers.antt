use Rattle.std.proofs.Common.{sym}
use Rattle.std.proofs.lemmas.Result.{err_from_is_err_and}
use Rattle.oa_bind.specs.promise.Bindings.{BindingTakesMemory, bound_to}
use Rattle.oa_bind.specs.promise.Given.{Given}
use Rattle.oa_decision.proofs.Keys.{few_bound}
use Rattle.oa_decision.proofs.Refusing.{finds}
use Rattle.oa_decision.proofs.decider.Decider.bind_call.Goals as goal

pub returns-clause-few : goal.returns-clause-few
returns-clause-few c = few_bound c.args.member.now c.args.kind _ c.in_ok-bind.field-0 c.requires c.in_ok-bind.ensures.call

pub returns-in_err-bind-clause-call : goal.returns-in_err-bind-clause-call
returns-in_err-bind-clause-call c =
    let told = err_from_is_err_and c.from_residual.result c.from_residual.ensures.1 in
    let call : Given = record { named = c.as_slice.result.now; arguments = c.into_vec-arguments.result.items } in
    let member = c.args.member.now in
    let takes = BindingTakesMemory member.parameters member.value_type c.args.kind call in
    rw (told.1, told.2, sym c.as_slice.ensures.value, sym c.into_vec-arguments.ensures.value)
    (finds (bound_to member c.args.kind call) takes c.in_err-bind.field-0.0 c.in_err-bind.ensures.call c.in_err-bind.ensures.memory)
