use Rattle.std.proofs.Common.{◌≡◌, Some, arith, refl}
use Rattle.oa_ndr.specs.promise.Reading.{at}
use Rattle.oa_formats.proofs.Exact.{all_bytes, read_to_its_end, bytes_left, first_left, refused}
use Rattle.oa_formats.proofs.image.read_exactly.Goals as goal

pub returns-then-is_done : goal.returns-then-is_done
returns-then-is_done g c = record {
  exact = read_to_its_end g.F.ReadImage.format c.args.bytes.now c.in-Ok.value c.read.new.r (all_bytes c.args.bytes.now (λ i. omega (arith, c.type_inv.bytes i)))
      (rw (← c.new-r.ensures) c.in-Ok.ensures) (c.if-is_done.ensures.0 refl);
}

pub returns-else-is_done : goal.returns-else-is_done
returns-else-is_done g c =
    let read : g.F.ReadImage.format.read (at 0 c.args.bytes.now) ≡ Some (c.in-Ok.value, c.read.new.r) = rw (← c.new-r.ensures) c.in-Ok.ensures in
    record {
      exact = (
        bytes_left g.F.ReadImage.format c.args.bytes.now c.in-Ok.value c.read.new.r read (λ e. let t = c.if-is_done.ensures.1 e in absurd cc),
        c.place_in.ensures.within,
        first_left g.F.ReadImage.format c.args.bytes.now c.in-Ok.value c.read.new.r c.place_in.result read c.place_in.ensures.place,
      );
    }

pub returns-in-Err : goal.returns-in-Err
returns-in-Err g c = record {
  exact =
      rw c.placed.ensures (refused g.F.ReadImage.format c.args.bytes.now c.in-Err.fault c.read.new.r c.place_in-in-Err.result
      (rw (← c.new-r.ensures) c.in-Err.ensures) c.place_in-in-Err.ensures.within);
}
