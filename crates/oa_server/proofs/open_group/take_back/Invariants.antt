use Rattle.std.proofs.Common.{◌≡◌}
use Rattle.oa_server.specs.promise.ServerMachine.{aborted_reply}
use Rattle.oa_server.proofs.Mapping.{mapped}
use Rattle.oa_server.proofs.open_group.take_back.Given as goal

abbrev pub invariant-loop-reply : goal.invariant-loop-reply
invariant-loop-reply l = l.replies ≡ mapped aborted_reply l.reply-index l.fn.replies
