use Rattle.oa_sema.specs.promise.Libraries.{marked_item}
use Rattle.oa_sema.proofs.Marks.{turn_writes, all_written}
use Rattle.oa_sema.proofs.marking.mark_items.Goals as goal

pub loop-item-preserved : goal.loop-item-preserved
loop-item-preserved c =
    let t = turn_writes marked_item c.args.items.now c.loop-item.items c.loop-item.item-index c.item-item.result c.mark_item.new.item c.loop-item-test.true
    c.loop-item.auto.items c.loop-item.invariant.done c.loop-item.invariant.left c.item-item.is c.mark_item.ensures in
    record { done = t.0; left = t.1 }

pub returns : goal.returns
returns c = all_written marked_item c.args.items.now c.loop-item.items c.loop-item.item-index c.loop-item-test.false c.loop-item.auto.items
    c.loop-item.invariant.done
