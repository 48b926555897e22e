use Rattle.std.proofs.Common.{ap}
use Rattle.std.specs.Option.{option_map}
use Rattle.oa_sema.specs.declared.fault.CheckError.TheVariants.{UnknownInterface}
use Rattle.oa_sema.specs.promise.Breaches.{entry_breach}
use Rattle.oa_sema.proofs.Passes.{refuses_more, no_refusal, answer_found, answer_on, answer_done, refused}
use Rattle.oa_sema.specs.promise.Repeats.{first_answer}
use Rattle.oa_sema.proofs.checks.check_interfaces.Goals as goal

pub returns-in_err-check_item : goal.returns-in_err-check_item
returns-in_err-check_item c =
    refused (option_map UnknownInterface (first_answer (entry_breach c.args.items.now) c.args.items.now))
    (λ _. Unit {0}) c.in_err-check_item.field-0.0 c.from_residual.result
    c.from_residual.ensures.0 c.from_residual.ensures.1
    (refuses_more UnknownInterface (entry_breach c.args.items.now c.item-item.result) (first_answer (entry_breach c.args.items.now) c.args.items.now)
    c.in_err-check_item.field-0.0
    (λ n some. answer_found (entry_breach c.args.items.now) c.args.items.now c.loop-item.item-index c.item-item.result n c.loop-item-test.true c.item-item.is
    c.loop-item.invariant some)
    c.in_err-check_item.ensures)

pub loop-item-preserved : goal.loop-item-preserved
loop-item-preserved c =
    answer_on (entry_breach c.args.items.now) c.args.items.now c.loop-item.item-index c.item-item.result c.loop-item-test.true c.item-item.is
    c.loop-item.invariant (no_refusal UnknownInterface _ c.in_ok-check_item.ensures.0)

pub returns : goal.returns
returns c = (
  ap (option_map UnknownInterface) (answer_done (entry_breach c.args.items.now) c.args.items.now c.loop-item.item-index c.loop-item-test.false
      c.loop-item.invariant),
  tt,
)
