use Rattle.std.proofs.Common.{◌≡◌, ◌-◌}
use Rattle.oa_ndr.specs.promise.Reading.{many}
use Rattle.oa_ndr.specs.Reading.{unit_at}
use Rattle.oa_ndr.proofs.Loop.{with_front}
use Rattle.oa_record.proofs.layout.units.Given as goal

abbrev pub invariant-units : goal.invariant-units
invariant-units l = with_front l.all.items (many (unit_at 2) (l.count - l.counter) l.r) ≡ many (unit_at 2) l.count l.fn.r
