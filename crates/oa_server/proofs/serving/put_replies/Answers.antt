use Rattle.std.proofs.Common.{[], refl, sym}
use Rattle.std.proofs.lemmas.Result.{err_from_is_err_and}
use Rattle.oa_frame.specs.promise.Framings.{frames}
use Rattle.oa_frame.proofs.Spelled.{puts_none}
use Rattle.oa_server.proofs.PutReplies.{put_fails, put_one}
use Rattle.oa_server.proofs.serving.put_replies.Goals as goal

pub replies-init : goal.replies-init
replies-init g c = record { written = puts_none (frames c.args.framing).spelled _ [] refl c.requires.unbroken }

pub replies-preserved : goal.replies-preserved
replies-preserved g c = record {
  written =
      put_one (frames c.args.framing).spelled c.args.replies.now c.replies.reply-index c.reply-item.result c.replies-test.true
      (sym c.reply-item.is) _ _ _ c.replies.invariant.written
      (rw c.body.ensures.value at (rw c.head.ensures at c.in_ok-put_reply.ensures));
}

pub returns-in_err-put_reply : goal.returns-in_err-put_reply
returns-in_err-put_reply g c =
    let p = err_from_is_err_and c.from_residual.result c.from_residual.ensures.1 in
    rw p.1 (put_fails (frames c.args.framing).spelled c.args.replies.now c.replies.reply-index c.reply-item.result c.replies-test.true
    (sym c.reply-item.is) _ _ _ c.replies.invariant.written
    (rw c.body.ensures.value at (rw c.head.ensures at c.in_err-put_reply.ensures)))
