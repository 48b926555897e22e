use Rattle.std.proofs.Common.{arith, [], ◌∷◌, refl}
use Rattle.oa_record.specs.promise.Replies.{reply_record}
use Rattle.oa_server.specs.promise.SharedMachine.{Replies}
use Rattle.oa_server.proofs.BehindEnds.{none_told_of}
use Rattle.oa_server.proofs.HeldForMany.{alone_over}
use Rattle.oa_server.proofs.PutFrames.{puts_frame}
use Rattle.oa_server.proofs.sharing.ServerStateSharedResponder.answer_client_alone.Goals as goal

pub put_reply_of-requires-clause-short : goal.put_reply_of-requires-clause-short
put_reply_of-requires-clause-short g c = omega (arith, c.body.ensures.small)

pub put_reply_of-requires-in-Disk-clause-short : goal.put_reply_of-requires-in-Disk-clause-short
put_reply_of-requires-in-Disk-clause-short g c = omega (arith, c.body-in-Disk.ensures.small)

pub ask_alone-reply-requires-clause-none : goal.ask_alone-reply-requires-clause-none
ask_alone-reply-requires-clause-none g c =
    let now = c.requires.now in
    none_told_of {g = g.D.Disk} c.in-Disk.store now.0.host c.args.self.now.host now.0.storage now.0.desk c.args.self.now.desk now.1 (rw c.in-Disk.is at now.2)
    (rw c.in-Disk.is at c.requires.ready)

pub returns-in-Memory-clause-answers : goal.returns-in-Memory-clause-answers
returns-in-Memory-clause-answers g c =
    let reply = c.replace_for-reply.result in
    record {
      told = (c.args.client, reply_record reply) ∷ [];
      turned =
          rw c.in-Memory.is (
            refl,
            (
              Replies c.args.client reply,
              refl,
              record { reply = reply; told_is = refl; turn = c.replace_for-reply.ensures.turn c.args.client c.args.self.now.desk.owners },
            ),
          );
      put = puts_frame c.put_reply_of.result _ _ _ (rw c.body.ensures.value at (rw c.head.ensures at c.put_reply_of.ensures));
    }

pub returns-in-Disk-clause-answers : goal.returns-in-Disk-clause-answers
returns-in-Disk-clause-answers g c =
    let reply = c.ask_alone-reply.result in
    record {
      told = (c.args.client, reply_record reply) ∷ [];
      turned =
          rw c.in-Disk.is
          (alone_over {g = g.D.Disk} c.in-Disk.store c.ask_alone-reply.new.store c.args.self.now.host c.ask_alone-reply.new.host c.args.self.now.desk
          c.ask_alone-reply.new.desk c.args.client c.args.body.now reply c.ask_alone-reply.ensures.size
          (c.ask_alone-reply.ensures.told c.args.client));
      put = puts_frame c.put_reply_of-in-Disk.result _ _ _ (rw c.body-in-Disk.ensures.value at (rw c.head-in-Disk.ensures at c.put_reply_of-in-Disk.ensures));
    }
