use Rattle.std.proofs.Common.{◌≡◌, ◌-◌}
use Rattle.oa_ndr.specs.promise.Reading.{many}
use Rattle.oa_ndr.proofs.Loop.{with_front}
use Rattle.oa_wire_array.specs.ArrayReading.{bound_at}
use Rattle.oa_wire_array.proofs.array.bounds.Given as goal

abbrev pub invariant-loop : goal.invariant-loop
invariant-loop l = with_front l.all.items (many bound_at (l.dims - l.counter) l.r) ≡ many bound_at l.dims l.fn.r
