use Rattle.std.proofs.Common.{◌≡◌, length}
use Rattle.oa_compat.specs.promise.Fits.{key_fits}
use Rattle.oa_compat.proofs.fitting.key_fits.Given as goal

abbrev pub invariant-values : goal.invariant-values
invariant-values l = key_fits l.more l.rest ≡ key_fits l.fn.parameters l.fn.key

abbrev pub decreases-values : goal.decreases-values
decreases-values l = length l.more
