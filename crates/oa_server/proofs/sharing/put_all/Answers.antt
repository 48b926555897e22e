use Rattle.std.proofs.Common.{sym}
use Rattle.std.proofs.lemmas.Result.{err_from_is_err_and}
use Rattle.oa_server.proofs.PutFrames.{no_told, puts_nothing, told_fails, told_on}
use Rattle.oa_server.proofs.sharing.put_all.Goals as goal

pub replies-init : goal.replies-init
replies-init g c = record { written = rw no_told (puts_nothing _ c.requires.unbroken) }

pub replies-preserved : goal.replies-preserved
replies-preserved g c = record {
  written = told_on c.args.askers.now c.args.replies.now c.requires.each c.replies.i c.asker_of-asker.result c.index-replies-i.result c.replies-test.true
      c.asker_of-asker.ensures (sym c.index-replies-i.is) _ _ _ c.replies.invariant.written c.in_ok-put_one.ensures;
}

pub returns-in_err-put_one : goal.returns-in_err-put_one
returns-in_err-put_one g c =
    let p = err_from_is_err_and c.from_residual.result c.from_residual.ensures.1 in
    rw p.1 (told_fails c.args.askers.now c.args.replies.now c.requires.each c.replies.i c.asker_of-asker.result c.index-replies-i.result c.replies-test.true
    c.asker_of-asker.ensures (sym c.index-replies-i.is) _ _ _ c.replies.invariant.written c.in_err-put_one.ensures)
