use Rattle.std.proofs.Common.{◌<◌, ◌^◌, refl, length, arith}
use Rattle.oa_image.specs.promise.Tables.{table_image}
use Rattle.oa_image.proofs.Sized.{table_sized}
use Rattle.oa_image.proofs.Pieced.{whole_image, whole_rest}
use Rattle.oa_image.proofs.pieces.ImageChunks.new.Goals as goal

pub invariant_of-result : goal.invariant_of-result
invariant_of-result c =
    let small : length (table_image c.args.table.now) < 2 ^ 64 = omega (arith, table_sized c.args.table.now, c.image_size-size.ensures) in
    rw (c.next.ensures, c.len.ensures, c.objects.ensures) (whole_rest c.args.table.now _ _ refl small)

pub returns : goal.returns
returns c = rw (c.next.ensures, c.len.ensures, c.objects.ensures) (whole_image c.args.table.now)
