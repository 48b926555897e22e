use Rattle.std.proofs.Common.{◌≡◌, ◌-◌, ◌<◌, ◌≤◌, ◌^◌, length, drop}
use Rattle.oa_idl.specs.promise.Words.{number_from}
use Rattle.oa_idl.proofs.reader.digits.Given as goal

abbrev pub invariant-loop-n : goal.invariant-loop-n
invariant-loop-n l = record {
  within : l.n ≤ length l.text;
  small : l.value < 2 ^ 96;
  so_far : number_from l.base l.value (drop l.n l.text)
      ≡ number_from l.base 0 l.text;
}

abbrev pub decreases-loop-n : goal.decreases-loop-n
decreases-loop-n l = length l.text - l.n
