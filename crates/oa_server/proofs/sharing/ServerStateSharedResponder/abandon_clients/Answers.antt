use Rattle.std.proofs.Common.{refl, subst}
use Rattle.oa_server.specs.promise.SharedSessions.{all_frames}
use Rattle.oa_server.specs.SharedGroups.{told_at}
use Rattle.oa_server.proofs.HeldForMany.{now_over}
use Rattle.oa_server.proofs.sharing.ServerStateSharedResponder.abandon_clients.Goals as goal

pub returns-in-Disk-clause-gives_up : goal.returns-in-Disk-clause-gives_up
returns-in-Disk-clause-gives_up g c = record {
  told = all_frames (told_at c.finish_over.new.desk);
  turned =
      rw c.in-Disk.is (now_over {g = g.D.Disk} c.in-Disk.store c.finish_over.new.store c.args.self.now.host c.args.self.now.desk c.finish_over.new.desk
      c.clear.new.desk c.clear.ensures c.finish_over.ensures.size c.finish_over.ensures.batch c.finish_over.ensures.ended);
}
