use Rattle.std.proofs.Common.{◌≡◌, length, rules, sym, ◌∙◌}
use Rattle.std.proofs.lemmas.Result.{err_from_is_err_and}
use Rattle.oa_bind.specs.Given.{given_call}
use Rattle.oa_bind.proofs.Turns.{bound_err, bound_ok, new_value_stays}
use Rattle.oa_bind.proofs.binding.bind_parts.Goals as goal

pub returns-in_err-value-clause-call : goal.returns-in_err-value-clause-call
returns-in_err-value-clause-call c =
    let p = err_from_is_err_and c.from_residual-in_err-value.result c.from_residual-in_err-value.ensures.1 in
    let len : c.len.result ≡ length c.args.arguments.items = search rules in
    let stays = new_value_stays c.args.named.now c.args.arguments.items c.key.new.arguments.items (length c.args.parameters.now) c.args.declared c.args.kind
    (rw len at c.in_ok-check_names.ensures.named) c.in_ok-key.ensures.len c.in_ok-key.ensures.others in
    rw (p.1, p.2) (bound_err c.args.parameters.now c.args.declared c.args.kind (given_call c.args.named.now c.args.arguments.items) c.in_ok-key.key.items
    c.in_ok-check_names.field-0 c.in_ok-check_complete.field-0 c.in_err-value.field-0.0
    (rw len at c.in_ok-check_names.ensures.value) (rw c.as_slice.ensures.value at c.in_ok-check_complete.ensures.value) c.in_ok-key.ensures.key
    (rw stays at c.in_err-value.ensures.value))

pub returns-clause-call : goal.returns-clause-call
returns-clause-call c =
    let len : c.len.result ≡ length c.args.arguments.items = search rules in
    let stays = new_value_stays c.args.named.now c.args.arguments.items c.key.new.arguments.items (length c.args.parameters.now) c.args.declared c.args.kind
    (rw len at c.in_ok-check_names.ensures.named) c.in_ok-key.ensures.len c.in_ok-key.ensures.others in
    bound_ok c.args.parameters.now c.args.declared c.args.kind (given_call c.args.named.now c.args.arguments.items) c.in_ok-key.key.items
    c.in_ok-check_names.field-0 c.in_ok-check_complete.field-0 c.in_ok-value.value
    (rw len at c.in_ok-check_names.ensures.value) (rw c.as_slice.ensures.value at c.in_ok-check_complete.ensures.value) c.in_ok-key.ensures.key
    (sym stays ∙ c.in_ok-value.ensures.value)
