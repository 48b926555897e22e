use Rattle.std.proofs.Common.{◌≡◌, ◌-◌, map, length}
use Rattle.oa_ndr.specs.promise.Reading.{many}
use Rattle.oa_ndr.proofs.Loop.{with_front}
use Rattle.oa_record.specs.Reading.{string_at}
use Rattle.oa_record.proofs.layout.strings.Given as goal

abbrev pub invariant-strings : goal.invariant-strings
invariant-strings l = record {
  read : with_front (map (λ x. x.items) l.all.items) (many string_at (l.count - l.counter) l.r) ≡ many string_at l.count l.fn.r;
  count : length l.all.items ≡ l.counter;
}
