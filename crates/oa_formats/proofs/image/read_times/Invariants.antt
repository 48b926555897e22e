use Rattle.std.proofs.Common.{◌≡◌, ◌-◌, length}
use Rattle.oa_ndr.specs.promise.Reading.{many}
use Rattle.oa_ndr.proofs.Loop.{with_front}
use Rattle.oa_formats.proofs.image.read_times.Given as goal

abbrev pub invariant-values : goal.invariant-values
invariant-values g l = record {
  read : with_front l.all.items (many g.F.ReadImage.format.read (l.count - l.counter) l.r) ≡ many g.F.ReadImage.format.read l.count l.fn.r;
  len : length l.all.items ≡ l.counter;
}
