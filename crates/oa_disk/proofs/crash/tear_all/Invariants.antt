use Rattle.std.proofs.Common.{◌≡◌, ◌+◌, drop}
use Rattle.oa_disk.specs.promise.CallLog.{laid}
use Rattle.oa_disk.specs.promise.Disk.{count_all, torn_all}
use Rattle.oa_disk.proofs.crash.tear_all.Given as goal

abbrev pub invariant-loop-call : goal.invariant-loop-call
invariant-loop-call l = record {
  torn : torn_all l.tear (laid l.disk) (drop l.call-index l.calls) (drop l.from l.written) ≡ torn_all l.initial.tear (laid l.initial.disk) l.calls l.written;
  size : l.disk.size ≡ l.initial.disk.size;
  count : l.from + count_all (drop l.call-index l.calls) ≡ count_all l.calls;
}
