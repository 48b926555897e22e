use Rattle.std.proofs.Common.{length}
use Rattle.oa_formats.proofs.Rows.{SoFar}
use Rattle.oa_formats.proofs.image.read_row.Given as goal

abbrev pub invariant-row : goal.invariant-row
invariant-row g l = SoFar g.F.ReadImage.format l.fn.bytes l.all.items l.r

abbrev pub decreases-row : goal.decreases-row
decreases-row g l = length l.r.rest
