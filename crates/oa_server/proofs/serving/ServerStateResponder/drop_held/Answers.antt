use Rattle.std.proofs.Common.{rules, [], map, refl}
use Rattle.oa_record.specs.promise.Replies.{reply_record}
use Rattle.oa_server.proofs.serving.ServerStateResponder.drop_held.Goals as goal

pub returns-in-Memory : goal.returns-in-Memory
returns-in-Memory g c = record { held = []; ended = rw c.in-Memory.is (refl, (refl, refl)) }

pub returns-in-Disk : goal.returns-in-Disk
returns-in-Disk g c = record {
  held = map reply_record c.flush_held.new.open_group.replies.items;
  ended =
      rw c.in-Disk.is (record {
        told = c.flush_held.new.open_group.replies.items;
        are = refl;
        size = c.flush_held.ensures.size;
        none = search rules;
        ended = search rules;
      });
}
