use Rattle.oa_disk.proofs.Shown.{shown_in, shown_out}
use Rattle.oa_disk.proofs.layers.show.Goals as goal

pub returns-then-low-high-clause-shown : goal.returns-then-low-high-clause-shown
returns-then-low-high-clause-shown c disk inside holds =
    shown_in disk c.args.window.now c.args.bytes.now c.args.at c.args.to inside holds c.max-low.result c.min-high.result c.max-low.ensures c.min-high.ensures
    c.if-low-high.true c.put.new.window c.put.ensures.bytes

pub returns-else-low-high-clause-shown : goal.returns-else-low-high-clause-shown
returns-else-low-high-clause-shown c disk inside holds =
    shown_out disk c.args.window.now c.args.bytes.now c.args.at c.args.to inside holds c.max-low.result c.min-high.result c.max-low.ensures c.min-high.ensures
    c.if-low-high.false
