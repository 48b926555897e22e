use Rattle.std.proofs.Common.{◌+◌, ℕ, length, arith, sym, ap, ◌∙◌}
use Rattle.oa_sema.specs.promise.Libraries.{as_interface}
use Rattle.oa_typelib.proofs.Kept.{count_more, none_more}
use Rattle.oa_typelib.proofs.describe.count_interfaces.Goals as goal
use Rattle.oa_typelib.proofs.describe.count_interfaces.Goals.{in-Interface, in-Coclass}

pub loop-item-preserved : goal.loop-item-preserved
loop-item-preserved c =
    elim c.match-item.branch [
      | in-Interface w ↦ record {
        count = w.count-is ∙ ap (λ (n : ℕ). n + 1) c.loop-item.invariant.count
            ∙ sym (count_more as_interface c.args.items.now c.loop-item.item-index c.item-item.result c.loop-item-test.true c.item-item.is
            w.in-Interface.field-0 (ap as_interface w.in-Interface.is));
        bound = omega (arith, w.count-is, c.loop-item.invariant.bound);
      }
      | in-Coclass w ↦ record {
        count = w.count-is ∙ c.loop-item.invariant.count
            ∙ sym (ap length (none_more as_interface c.args.items.now c.loop-item.item-index c.item-item.result c.loop-item-test.true c.item-item.is
            (ap as_interface w.in-Coclass.is)));
        bound = omega (arith, w.count-is, c.loop-item.invariant.bound);
      }
    ]
