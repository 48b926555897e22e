use Rattle.std.proofs.Common.{◌≡◌, drop}
use Rattle.std.specs.List.{flat_map}
use Rattle.oa_formats.specs.Windows.{showing, added}
use Rattle.oa_formats.proofs.image.put_each.Given as goal

abbrev pub invariant-values : goal.invariant-values
invariant-values g l =
    added (showing l.w l.out) (flat_map g.F.ReadImage.format.image (drop l.value-index l.values))
    ≡ added (showing l.fn.w l.fn.out) (flat_map g.F.ReadImage.format.image l.values)
