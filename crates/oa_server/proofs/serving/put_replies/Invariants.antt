use Rattle.std.proofs.Common.{map, take}
use Rattle.oa_frame.specs.promise.Framings.{frames}
use Rattle.oa_frame.specs.promise.Sessions.{spelled_all}
use Rattle.oa_record.specs.promise.Replies.{reply_record}
use Rattle.oa_stream.specs.promise.Sink.{Writes}
use Rattle.oa_server.proofs.serving.put_replies.Given as goal

abbrev pub invariant-replies : goal.invariant-replies
invariant-replies g l = record {
  written : Writes (g.W.Sink.out l.fn.writer) (g.W.Sink.out l.writer)
      (spelled_all (frames l.framing).spelled (map reply_record (take l.reply-index l.replies)));
}
