use Rattle.std.proofs.Common.{◌≡◌, ℕ}
use Rattle.std.specs.List.{list_all}
use Rattle.oa_table.specs.promise.Tables.{ObjectValue}
use Rattle.oa_compat.specs.promise.Fits.{fits, object_fits}
use Rattle.oa_compat.proofs.fitting.fits.Given as goal

abbrev pub invariant-objects : goal.invariant-objects
invariant-objects l = list_all (λ (entry : ℕ × ObjectValue). object_fits l.fn.library entry.1) l._number-iterator ≡ fits l.fn.library l.fn.table
