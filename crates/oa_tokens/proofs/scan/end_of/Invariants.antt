use Rattle.std.proofs.Common.{◌≡◌, ◌-◌, ◌≤◌, length, drop, false}
use Rattle.oa_tokens.specs.promise.Bytes.{end_from}
use Rattle.oa_tokens.proofs.Scans.{plus}
use Rattle.oa_tokens.proofs.scan.end_of.Given as goal

abbrev pub invariant-loop-n : goal.invariant-loop-n
invariant-loop-n l = record { within : l.n ≤ length l.bytes; so_far : plus l.n (end_from l.close l.marked (drop l.n l.bytes)) ≡ end_from l.close false l.bytes }

abbrev pub decreases-loop-n : goal.decreases-loop-n
decreases-loop-n l = length l.bytes - l.n
