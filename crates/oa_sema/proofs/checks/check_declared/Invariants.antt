use Rattle.std.proofs.Common.{◌≡◌, [], take, drop}
use Rattle.oa_sema.specs.promise.Breaches.{declared_breach}
use Rattle.oa_sema.specs.promise.Repeats.{first_after}
use Rattle.oa_sema.specs.Taken.{takes_reading, takes_setting, names_taken}
use Rattle.oa_sema.proofs.checks.check_declared.Given as goal

abbrev pub invariant-loop-declaration : goal.invariant-loop-declaration
invariant-loop-declaration l = record {
  reading : l.taken.reading ≡ names_taken takes_reading (take l.declaration-index l.all);
  setting : l.taken.setting ≡ names_taken takes_setting (take l.declaration-index l.all);
  left : first_after declared_breach [] l.all ≡ first_after declared_breach (take l.declaration-index l.all) (drop l.declaration-index l.all);
}
