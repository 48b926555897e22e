use Rattle.std.proofs.Common.{◌≡◌, drop}
use Rattle.oa_ndr.specs.Writing.{TakesNothingBack}
use Rattle.oa_ndr.specs.promise.Writing.{put_all}
use Rattle.oa_wire_array.specs.promise.ArrayCanon.{put_pointee}
use Rattle.oa_wire_array.proofs.array_out.write_pointees.Given as goal

abbrev pub invariant-loop-cell : goal.invariant-loop-cell
invariant-loop-cell l =
    (l.out.before ≡ l.fn.out.before)
    × TakesNothingBack l.fn.out l.out
    × (put_all (put_pointee l.elem) (drop l.cell-index l.cells) l.out.field ≡ put_all (put_pointee l.elem) l.cells l.fn.out.field)
