use Rattle.std.proofs.Common.{◌≡◌, ◌-◌, ◌≤◌, length, drop, false}
use Rattle.oa_idl.specs.promise.Words.{characters_from}
use Rattle.oa_idl.proofs.Strings.{after_front}
use Rattle.oa_idl.proofs.reader.characters.Given as goal

abbrev pub invariant-loop-n : goal.invariant-loop-n
invariant-loop-n l = record {
  within : l.n ≤ length l.text;
  so_far : after_front l.out.items (characters_from l.marked (drop l.n l.text))
      ≡ characters_from false l.text;
}

abbrev pub decreases-loop-n : goal.decreases-loop-n
decreases-loop-n l = length l.text - l.n
