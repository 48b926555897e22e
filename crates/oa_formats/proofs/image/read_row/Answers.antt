use Rattle.oa_formats.proofs.Rows.{is_shorter, one_more, row_refused}
use Rattle.oa_formats.proofs.image.read_row.Goals as goal

pub row-smaller : goal.row-smaller
row-smaller g c = is_shorter g.F.ReadImage.format c.requires c.args.bytes.now c.row.all.items c.row.r c.read.new.r c.in-Ok.value c.in-Ok.ensures c.row.invariant

pub row-preserved : goal.row-preserved
row-preserved g c =
    rw c.in_ok-push-in-Ok.ensures.items (one_more g.F.ReadImage.format c.args.bytes.now c.row.all.items c.row.r c.read.new.r c.in-Ok.value c.in-Ok.ensures
    c.row.invariant)

pub returns-in-Err : goal.returns-in-Err
returns-in-Err g c = record {
  row =
      rw c.placed.ensures (row_refused g.F.ReadImage.format c.args.bytes.now c.row.all.items c.row.r c.read.new.r c.in-Err.fault c.place_in.result
      (λ nil. let t = c.row-test.ensures.1 nil in absurd cc) c.in-Err.ensures c.row.invariant c.place_in.ensures.within);
}
