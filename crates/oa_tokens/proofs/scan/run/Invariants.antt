use Rattle.std.proofs.Common.{◌≡◌, ◌-◌, ◌+◌, ◌≤◌, length, drop}
use Rattle.oa_tokens.specs.promise.Bytes.{is_in, run}
use Rattle.oa_tokens.proofs.scan.run.Given as goal

abbrev pub invariant-loop-n : goal.invariant-loop-n
invariant-loop-n l = record { within : l.n ≤ length l.bytes; so_far : l.n + run (is_in l.class) (drop l.n l.bytes) ≡ run (is_in l.class) l.bytes }

abbrev pub decreases-loop-n : goal.decreases-loop-n
decreases-loop-n l = length l.bytes - l.n
