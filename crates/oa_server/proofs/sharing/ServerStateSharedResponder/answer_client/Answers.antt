use Rattle.std.proofs.Common.{arith, rules, [], ◌∷◌, refl}
use Rattle.oa_record.specs.promise.Replies.{reply_record}
use Rattle.oa_server.specs.promise.SharedSessions.{all_frames}
use Rattle.oa_server.specs.SharedGroups.{told_at}
use Rattle.oa_server.specs.promise.SharedMachine.{Replies}
use Rattle.oa_mux.specs.promise.Readers.{Body}
use Rattle.oa_server.proofs.HeldForMany.{held_over, told_over}
use Rattle.oa_server.proofs.PutFrames.{puts_frame, puts_nothing}
use Rattle.oa_server.proofs.sharing.ServerStateSharedResponder.answer_client.Goals as goal

pub put_reply_of-requires-clause-short : goal.put_reply_of-requires-clause-short
put_reply_of-requires-clause-short g c = omega (arith, c.body.ensures.small)

pub returns-in-Memory-clause-answers : goal.returns-in-Memory-clause-answers
returns-in-Memory-clause-answers g c = record {
  told = (c.args.client, reply_record c.turn_for-reply.result) ∷ [];
  turned =
      rw c.in-Memory.is (
        refl,
        (
          Replies c.args.client c.turn_for-reply.result,
          refl,
          record { reply = c.turn_for-reply.result; told_is = refl; turn = c.turn_for-reply.ensures.turn },
        ),
      );
  put = puts_frame c.put_reply_of.result _ _ _ (rw c.body.ensures.value at (rw c.head.ensures at c.put_reply_of.ensures));
}

pub returns-then-not-ask_over-clause-answers : goal.returns-then-not-ask_over-clause-answers
returns-then-not-ask_over-clause-answers g c = record {
  told = [];
  turned =
      rw c.in-Disk.is (held_over {g = g.D.Disk} c.in-Disk.store c.ask_over.new.store c.args.self.now.host c.ask_over.new.host c.args.self.now.desk
      c.ask_over.new.desk c.args.client (Body c.args.body.now) c.ask_over.ensures.size (c.ask_over.ensures.held (search rules)));
  put = puts_nothing _ c.requires.unbroken;
}

pub returns-else-not-ask_over-clause-answers : goal.returns-else-not-ask_over-clause-answers
returns-else-not-ask_over-clause-answers g c = record {
  told = all_frames (told_at c.ask_over.new.desk);
  turned =
      rw c.in-Disk.is
      (told_over {g = g.D.Disk} c.in-Disk.store c.ask_over.new.store c.args.self.now.host c.ask_over.new.host c.args.self.now.desk c.ask_over.new.desk
      c.put_told.new.desk c.args.client (Body c.args.body.now) c.put_told.ensures.cleared c.ask_over.ensures.size
      (c.ask_over.ensures.told (search rules)));
  put = c.put_told.ensures.puts;
}
