use Rattle.std.proofs.Common.{arith}
use Rattle.oa_formats.proofs.Exact.{all_bytes, none_begins}
use Rattle.oa_image.proofs.Taken.{front}
use Rattle.oa_image.proofs.reader.read_front.Goals as goal

pub overflow_sub-result : goal.overflow_sub-result
overflow_sub-result g c =
    (front g.F.ReadImage.format c.args.bytes.now c.rest.result.now c.in-Ok.part c.read.new.r
    (all_bytes c.args.bytes.now (λ i. omega (arith, c.type_inv.bytes i))) (rw (← c.new-r.ensures) c.in-Ok.ensures) c.rest.ensures).0

pub returns-in-Ok : goal.returns-in-Ok
returns-in-Ok g c =
    (front g.F.ReadImage.format c.args.bytes.now c.rest.result.now c.in-Ok.part c.read.new.r
    (all_bytes c.args.bytes.now (λ i. omega (arith, c.type_inv.bytes i))) (rw (← c.new-r.ensures) c.in-Ok.ensures) c.rest.ensures).1

pub returns-in-Err-Broken : goal.returns-in-Err-Broken
returns-in-Err-Broken g c part rest is fits same =
    none_begins g.F.ReadImage.format c.args.bytes.now (rw (← c.new-r.ensures) (rw c.in-Err-Broken.field-0-is at c.in-Err-Broken.ensures)) part rest is same
