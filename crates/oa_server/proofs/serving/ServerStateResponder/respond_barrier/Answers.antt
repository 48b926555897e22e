use Rattle.std.proofs.Common.{arith, [], ◌∷◌, refl}
use Rattle.oa_frame.specs.promise.Framings.{frames}
use Rattle.oa_frame.proofs.Spelled.{puts_one}
use Rattle.oa_record.specs.promise.Replies.{reply_record}
use Rattle.oa_server.proofs.BehindEnds.{none_held}
use Rattle.oa_server.proofs.serving.ServerStateResponder.respond_barrier.Goals as goal

pub admit_barrier-reply-requires-clause-none : goal.admit_barrier-reply-requires-clause-none
admit_barrier-reply-requires-clause-none g c = let ended = c.requires.ended in
    none_held {g = g.D.Disk} c.in-Disk.store ended.0.host c.args.self.now.host ended.0.storage ended.0.desk.open_group c.args.self.now.desk.open_group ended.1
    (rw c.in-Disk.is at ended.2)

pub returns-in-Memory : goal.returns-in-Memory
returns-in-Memory g c =
    let reply = reply_record c.replace-reply.result in
    record {
      answers = record {
        answers = record {
          replies = reply ∷ [];
          turned = rw c.in-Memory.is (refl, (c.replace-reply.result, refl, c.replace-reply.ensures.turn));
          put = puts_one (frames c.args.framing).spelled c.put_reply.result _ _ (reply ∷ []) reply refl
              (rw c.body.ensures.value at (rw c.head.ensures at c.put_reply.ensures));
        };
        one = omega arith;
      };
      ready = rw c.in-Memory.is tt;
    }

pub returns-in-Disk : goal.returns-in-Disk
returns-in-Disk g c =
    let reply = reply_record c.admit_barrier-reply.result in
    let said = c.admit_barrier-reply.ensures in
    record {
      answers = record {
        answers = record {
          replies = reply ∷ [];
          turned = rw c.in-Disk.is (record { told = c.admit_barrier-reply.result ∷ []; are = refl; size = said.size; ready = said.ready; taken = said.told });
          put = puts_one (frames c.args.framing).spelled c.put_reply-in-Disk.result _ _ (reply ∷ []) reply refl
              (rw c.body-in-Disk.ensures.value at (rw c.head-in-Disk.ensures at c.put_reply-in-Disk.ensures));
        };
        one = omega arith;
      };
      ready = said.ready;
    }
