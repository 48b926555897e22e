use Rattle.std.proofs.Common.{◌≤◌, ◌+◌, ◌*◌}
use Rattle.oa_wire_array.specs.ArrayCanon.{max_wire_pointee}
use Rattle.oa_wire_array.proofs.ArrayLengths.{Runs}
use Rattle.oa_wire_array.proofs.array_len.pointees_end.Given as goal

abbrev pub invariant-loop-cell : goal.invariant-loop-cell
invariant-loop-cell l = record {
  near : l.end ≤ l.place + max_wire_pointee * l.cell-index;
  value : Runs l.elem l.cells l.cell-index l.place l.end;
}
