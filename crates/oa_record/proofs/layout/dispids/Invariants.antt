use Rattle.std.proofs.Common.{◌≡◌, ◌-◌, length}
use Rattle.oa_ndr.specs.promise.Reading.{many}
use Rattle.oa_ndr.proofs.Loop.{with_front}
use Rattle.oa_record.specs.Reading.{dispid_at}
use Rattle.oa_record.proofs.layout.dispids.Given as goal

abbrev pub invariant-dispids : goal.invariant-dispids
invariant-dispids l = record {
  read : with_front l.all.items (many dispid_at (l.count - l.counter) l.r) ≡ many dispid_at l.count l.fn.r;
  count : length l.all.items ≡ l.counter;
}
