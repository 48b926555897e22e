use Rattle.std.proofs.Common.{◌≡◌}
use Rattle.oa_server.proofs.LocksBack.{taken_counts}
use Rattle.oa_server.specs.promise.SharedMachine.{taken_back}
use Rattle.oa_server.proofs.locking.take_back_cells.Given as goal

abbrev pub invariant-cells : goal.invariant-cells
invariant-cells l = taken_counts l.cell-iterator l.host ≡ taken_back l.fn.cells l.fn.host
