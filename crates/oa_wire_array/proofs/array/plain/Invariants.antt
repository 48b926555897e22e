use Rattle.std.proofs.Common.{◌≡◌, ◌-◌, length, take}
use Rattle.oa_ndr.specs.promise.Reading.{many}
use Rattle.oa_ndr.proofs.Loop.{with_front}
use Rattle.oa_wire_array.specs.Reading.{arm_at}
use Rattle.oa_wire_array.proofs.array.plain.Given as goal

abbrev pub invariant-loop-i : goal.invariant-loop-i
invariant-loop-i l = (length l.cells ≡ l.count)
    × (with_front (take l.i l.cells) (many (arm_at l.elem) (l.count - l.i) l.r) ≡ many (arm_at l.elem) l.count l.fn.r)
