use Rattle.std.proofs.Common.{rules, []}
use Rattle.oa_server.specs.promise.SharedSessions.{all_frames}
use Rattle.oa_server.specs.SharedGroups.{told_at}
use Rattle.oa_mux.specs.promise.Readers.{Ends}
use Rattle.oa_server.proofs.HeldForMany.{held_over, told_over}
use Rattle.oa_server.proofs.PutFrames.{puts_nothing}
use Rattle.oa_server.proofs.sharing.ServerStateSharedResponder.end_client.Goals as goal

pub returns-then-not-end_over-clause-answers : goal.returns-then-not-end_over-clause-answers
returns-then-not-end_over-clause-answers g c = record {
  told = [];
  turned =
      rw c.in-Disk.is (held_over {g = g.D.Disk} c.in-Disk.store c.end_over.new.store c.args.self.now.host c.end_over.new.host c.args.self.now.desk
      c.end_over.new.desk c.args.client (Ends c.args.why) c.end_over.ensures.size (c.end_over.ensures.held (search rules)));
  put = puts_nothing _ c.requires.unbroken;
}

pub returns-else-not-end_over-clause-answers : goal.returns-else-not-end_over-clause-answers
returns-else-not-end_over-clause-answers g c = record {
  told = all_frames (told_at c.end_over.new.desk);
  turned =
      rw c.in-Disk.is
      (told_over {g = g.D.Disk} c.in-Disk.store c.end_over.new.store c.args.self.now.host c.end_over.new.host c.args.self.now.desk c.end_over.new.desk
      c.put_told.new.desk c.args.client (Ends c.args.why) c.put_told.ensures.cleared c.end_over.ensures.size
      (c.end_over.ensures.told (search rules)));
  put = c.put_told.ensures.puts;
}
