use Rattle.std.proofs.Common.{◌≡◌, drop}
use Rattle.oa_bind.specs.promise.Names.{repeats}
use Rattle.oa_bind.proofs.names.has_repeat.Given as goal

abbrev pub invariant-named : goal.invariant-named
invariant-named l = repeats (drop l.i l.named) ≡ repeats l.fn.named
