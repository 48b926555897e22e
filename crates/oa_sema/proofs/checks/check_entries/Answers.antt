use Rattle.std.proofs.Common.{Some, sym, ap, ◌∙◌}
use Rattle.std.specs.Option.{option_map}
use Rattle.oa_sema.specs.declared.fault.CheckError.TheVariants.{UnknownInterface}
use Rattle.oa_sema.specs.promise.Breaches.{unknown_name}
use Rattle.oa_sema.specs.promise.Libraries.{interface_named}
use Rattle.oa_sema.proofs.Passes.{answer_found, answer_on, answer_done, is_known, is_unknown}
use Rattle.oa_sema.proofs.checks.check_entries.Goals as goal

pub returns-then-not-branch : goal.returns-then-not-branch
returns-then-not-branch c =
    ap (option_map UnknownInterface)
    (answer_found (unknown_name c.args.items.now) c.args.entries.now c.loop-entry.entry-index c.entry-item.result c.entry-item.result.interface
    c.loop-entry-test.true c.entry-item.is c.loop-entry.invariant
    (is_unknown (interface_named c.args.items.now c.entry-item.result.interface) c.entry-item.result.interface c.in_ok-is_interface.field-0
    c.in_ok-is_interface.ensures c.if-not-branch.true))
    ∙ ap (λ n. Some (UnknownInterface n)) (sym c.in_ok-copy.ensures)

pub loop-entry-preserved : goal.loop-entry-preserved
loop-entry-preserved c =
    answer_on (unknown_name c.args.items.now) c.args.entries.now c.loop-entry.entry-index c.entry-item.result c.loop-entry-test.true c.entry-item.is
    c.loop-entry.invariant
    (is_known (interface_named c.args.items.now c.entry-item.result.interface) c.entry-item.result.interface c.in_ok-is_interface.field-0
    c.in_ok-is_interface.ensures c.if-not-branch.false)

pub returns : goal.returns
returns c = (
  ap (option_map UnknownInterface) (answer_done (unknown_name c.args.items.now) c.args.entries.now c.loop-entry.entry-index c.loop-entry-test.false
      c.loop-entry.invariant),
  tt,
)
