use Rattle.std.proofs.Common.{◌≡◌, length, arith}
use Rattle.oa_ordered.proofs.Joined.{no_rows}
use Rattle.oa_ordered.proofs.branch.Branch.len.Goals as goal

pub returns : goal.returns
returns g c =
    let is : c.len.result ≡ length c.self.inside.rows.items = omega (arith, c.len.ensures) in
    rw (← c.self.view_is) (no_rows c.self.inside.rows.items c.len.result c.self.invariant is)
