use Rattle.std.proofs.Common.{◌≡◌}
use Rattle.std.specs.List.{list_all}
use Rattle.oa_compat.specs.promise.Fits.{cell_fits}
use Rattle.oa_compat.proofs.fitting.object_fits.Given as goal

abbrev pub invariant-cells : goal.invariant-cells
invariant-cells l = list_all (cell_fits l.fn.library l.fn.object.class) l.place-iterator ≡ list_all (cell_fits l.fn.library l.fn.object.class) l.fn.object.cells
