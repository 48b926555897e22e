use Rattle.std.proofs.Common.{◌≡◌, ◌-◌}
use Rattle.oa_ndr.specs.promise.Reading.{many}
use Rattle.oa_ndr.specs.Reading.{referent_at}
use Rattle.oa_ndr.proofs.Loop.{with_front}
use Rattle.oa_wire_array.proofs.array.flags.Given as goal

abbrev pub invariant-loop : goal.invariant-loop
invariant-loop l = with_front l.all.items (many referent_at (l.count - l.counter) l.r) ≡ many referent_at l.count l.fn.r
