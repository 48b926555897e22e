use Rattle.std.proofs.Common.{◌≡◌, ◌-◌, map, length}
use Rattle.oa_ndr.specs.promise.Reading.{many}
use Rattle.oa_ndr.proofs.Loop.{with_front}
use Rattle.oa_record.specs.Reading.{field_at}
use Rattle.oa_record.proofs.layout.fields.Given as goal

abbrev pub invariant-fields : goal.invariant-fields
invariant-fields l = record {
  read : with_front (map (λ x. x.now) l.all.items) (many field_at (l.count - l.counter) l.r) ≡ many field_at l.count l.fn.r;
  count : length l.all.items ≡ l.counter;
}
