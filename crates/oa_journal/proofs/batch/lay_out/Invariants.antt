use Rattle.std.proofs.Common.{◌≡◌, ◌≤◌, length, take, drop, IsTrue}
use Rattle.oa_disk.specs.Disk.{HasBytesAt}
use Rattle.oa_journal.proofs.Counted.{HasWritten}
use Rattle.oa_journal.proofs.Laying.{IsTearing}
use Rattle.oa_journal.proofs.batch.lay_out.Given as goal

-- the head stands, and so many bytes of the body; the others are left
abbrev pub invariant-pieces : goal.invariant-pieces
invariant-pieces g l =
    let d = g.D.Disk in
    record {
      enough : l.at ≤ length l.fn.bytes;
      left : l.bytes ≡ drop l.at l.fn.bytes;
      buffer : length l.buffer ≡ length l.fn.buffer;
      tears : IsTrue (d.is_honest l.fn.disk) → IsTearing d.contents d.image d.moment d.image_since l.fn.head l.fn.body l.fn.size l.fn.disk l.disk;
      titled : IsTrue (d.is_honest l.fn.disk) → HasBytesAt (d.contents l.disk) l.fn.head l.fn.header;
      held : IsTrue (d.is_honest l.fn.disk) → HasBytesAt (d.contents l.disk) l.fn.body (take l.at l.fn.bytes);
      calls : IsTrue (d.is_honest l.fn.disk) → HasWritten (d.moment l.fn.disk) (d.moment l.disk) (length l.fn.buffer) l.at (length l.fn.bytes);
      size : d.size_of l.disk ≡ d.size_of l.fn.disk;
      honest : d.is_honest l.disk ≡ d.is_honest l.fn.disk;
      failures : d.failures_of l.disk ≡ d.failures_of l.fn.disk;
    }

abbrev pub decreases-pieces : goal.decreases-pieces
decreases-pieces g l = length l.bytes
