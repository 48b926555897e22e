use Rattle.std.proofs.Common.{◌∙◌, arith, sym}
use Rattle.oa_store.proofs.Batches.{added}
use Rattle.oa_store.proofs.batch.add_event.Goals as goal

pub returns-clause-ok : goal.returns-clause-ok
returns-clause-ok c =
    let old = c.args.bytes.now in
    let longer = c.resize.new.self in
    let done = c.in_ok-resize.ensures in
    added old.items _ longer.items c.write_event.new.out _ c.max-begun.result c.in-Some.end longer.len c.requires
    (omega (arith, c.max-begun.ensures, c.len.ensures, old.ok.0))
    (omega (arith, c.in-Some.ensures.1, c.len-2.ensures.value)) done.len (sym longer.ok.0 ∙ done.len) done.items
    (rw (c.as_event.ensures, c.deref_mut.ensures.value) at c.write_event.ensures)
