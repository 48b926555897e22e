use Rattle.std.proofs.Common.{arith}
use Rattle.oa_server.proofs.PutFrames.{puts_frame}
use Rattle.oa_server.proofs.sharing.put_one.Goals as goal

pub put_reply_of-requires-clause-short : goal.put_reply_of-requires-clause-short
put_reply_of-requires-clause-short g c = omega (arith, c.body.ensures.small)

pub returns-in-None : goal.returns-in-None
returns-in-None g c = rw c.in-None.is (puts_frame c.put_reply_of.result _ _ _ (rw c.body.ensures.value at (rw c.head.ensures at c.put_reply_of.ensures)))
