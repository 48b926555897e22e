use Rattle.std.specs.List.{flat_map}
use Rattle.oa_formats.specs.Windows.{showing, added}
use Rattle.oa_formats.proofs.Loops.{images_go_on, images_end}
use Rattle.oa_formats.proofs.image.put_each.Goals as goal

pub values-preserved : goal.values-preserved
values-preserved g c =
    let image = g.F.ReadImage.format.image in
    images_go_on image c.args.values.now c.values.value-index c.value-item.result (showing c.values.w c.values.out) _
    (added (showing c.args.w.now c.args.out.now) (flat_map image c.args.values.now)) c.values-test.true c.value-item.is c.put.ensures c.values.invariant

pub returns : goal.returns
returns g c =
    let image = g.F.ReadImage.format.image in
    images_end image c.args.values.now c.values.value-index (showing c.values.w c.values.out)
    (added (showing c.args.w.now c.args.out.now) (flat_map image c.args.values.now)) c.values-test.false c.values.invariant
