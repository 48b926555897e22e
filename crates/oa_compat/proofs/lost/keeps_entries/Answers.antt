use Rattle.std.proofs.Common.{◌<◌, List, length, subst}
use Rattle.oa_idl.specs.declared.items.Item.{Item}
use Rattle.oa_compat.specs.promise.Keeps.{keeps_entries, keeps_entry}
use Rattle.oa_sema.specs.promise.Libraries.{as_interface}
use Rattle.oa_compat.proofs.Searches.{all_fail, all_on}
use Rattle.oa_compat.proofs.lost.keeps_entries.Goals as goal

pub returns-then-not-keeps_entry : goal.returns-then-not-keeps_entry
returns-then-not-keeps_entry c =
    all_fail (keeps_entry c.args.new.now c.args.now.now c.args.was.now) as_interface c.args.old.now.items c.items.at
    (keeps_entries c.args.new.now c.args.old.now c.args.now.now c.args.was.now) c.keeps_entry.result
    (subst (λ (xs : List Item). c.items.at < length xs) c.items-items.ensures c.items-test.true)
    c.items.invariant c.keeps_entry.ensures c.if-not-keeps_entry.true

pub items-preserved : goal.items-preserved
items-preserved c =
    all_on (keeps_entry c.args.new.now c.args.now.now c.args.was.now) as_interface c.args.old.now.items c.items.at
    (keeps_entries c.args.new.now c.args.old.now c.args.now.now c.args.was.now) c.keeps_entry.result
    (subst (λ (xs : List Item). c.items.at < length xs) c.items-items.ensures c.items-test.true)
    c.items.invariant c.keeps_entry.ensures c.if-not-keeps_entry.false
