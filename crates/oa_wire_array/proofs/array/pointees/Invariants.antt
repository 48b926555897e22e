use Rattle.std.proofs.Common.{◌≡◌, drop, length, take}
use Rattle.oa_ndr.specs.Reading.{map_at}
use Rattle.oa_ndr.proofs.Loop.{with_front}
use Rattle.oa_wire_array.specs.ArrayReading.{pointee_at}
use Rattle.oa_wire_array.proofs.array.pointees.Given as goal

abbrev pub invariant-loop-i : goal.invariant-loop-i
invariant-loop-i l =
    (length l.cells ≡ length l.flags)
    × (with_front (take l.i l.cells) (map_at (pointee_at l.elem) (drop l.i l.flags) l.r) ≡ map_at (pointee_at l.elem) l.flags l.fn.r)
