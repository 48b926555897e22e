use Rattle.std.proofs.Common.{rules, arith}
use Rattle.std.proofs.lemmas.Result.{err_from_is_err_and}
use Rattle.oa_idl.specs.promise.Grammar.{no_items}
use Rattle.oa_idl.proofs.Loop.{so_far_read, items_go_on, imports_go_on, items_end, items_out, items_err, imports_err, few_interfaces}
use Rattle.oa_idl.proofs.Loop.{few_coclasses}
use Rattle.oa_idl.proofs.parser.items.Goals as goal

pub returns-then-is : goal.returns-then-is
returns-then-is c =
    rw c.skip.ensures (items_end c.loop.all.items c.args.room c.loop.counter c.args.room c.loop.seen c.loop.r c.args.r.now (search rules)
    (search rules) c.loop.invariant.so_far)

pub returns-in_err-import : goal.returns-in_err-import
returns-in_err-import c =
    let p = err_from_is_err_and c.from_residual.result c.from_residual.ensures.1 in
    rw (p.1, p.2) (imports_err c.in_err-import.field-0.0 c.loop.all.items c.args.room c.loop.counter c.args.room c.loop.seen c.loop.r c.import.new.r
    c.args.r.now (search rules) (search rules) (search rules) c.in_err-import.ensures c.loop.invariant.so_far)

pub returns-in_err-next : goal.returns-in_err-next
returns-in_err-next c =
    let p = err_from_is_err_and c.from_residual-in_err-next.result c.from_residual-in_err-next.ensures.1 in
    rw (p.1, p.2) (items_err c.in_err-next.field-0.0 c.loop.all.items c.args.room c.loop.counter c.args.room c.loop.seen c.loop.r c.item.new.r c.args.r.now
    (search rules) (search rules) (search rules) c.in_err-next.ensures c.loop.invariant.so_far)

pub loop-preserved-then-is-2 : goal.loop-preserved-then-is-2
loop-preserved-then-is-2 c = record {
  so_far = imports_go_on c.loop.all.items c.args.room c.loop.counter c.loop.seen c.loop.r c.import.new.r (so_far_read c.args.room no_items c.args.r.now)
      (search rules) (search rules) (search rules) c.in_ok-import.ensures c.loop.invariant.so_far;
  interfaces = omega (arith, c.loop.invariant.interfaces);
  coclasses = omega (arith, c.loop.invariant.coclasses);
}

pub loop-preserved : goal.loop-preserved
loop-preserved c = record {
  so_far = rw (c.in_ok-push.ensures.items, c.counted-seen.ensures)
      (items_go_on c.loop.all.items c.args.room c.loop.counter c.loop.seen c.loop.r c.item.new.r c.perhaps.new.self c.in_ok-next.next
      (so_far_read c.args.room no_items c.args.r.now)
      (search rules) (search rules) (search rules) c.in_ok-next.ensures c.perhaps.ensures c.loop.invariant.so_far);
  interfaces = rw c.counted-seen.ensures (few_interfaces c.loop.seen c.in_ok-next.next c.loop.counter c.loop.invariant.interfaces);
  coclasses = rw c.counted-seen.ensures (few_coclasses c.loop.seen c.in_ok-next.next c.loop.counter c.loop.invariant.coclasses);
}

pub returns : goal.returns
returns c = items_out c.loop.all.items c.args.room c.loop.counter c.args.room c.loop.seen c.loop.r c.args.r.now (search rules) c.loop.invariant.so_far
