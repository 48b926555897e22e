use Rattle.std.proofs.Common.{◌≡◌, refl, ap, ◌≤◌, length, arith}
use Rattle.oa_cells.specs.Windows.{values}
use Rattle.oa_cells.proofs.Laid.{row_of_vacant}
use Rattle.oa_cells.proofs.partial.Partial.vacant.Goals as goal

pub invariant_of-result : goal.invariant_of-result
invariant_of-result g c =
    let fits : c.args.at ≤ c.args.len = c.requires in let made = row_of_vacant c.in_ok-row.row c.args.at c.args.len fits c.in_ok-row.ensures in
    let none : length (values c.in_ok-row.row) ≡ 0 = ap length made.0 in
    record { count = omega (arith, none); fits = fits; shape = made.1 }

pub returns : goal.returns
returns g c =
    let made = row_of_vacant c.in_ok-row.row c.args.at c.args.len c.requires c.in_ok-row.ensures in (refl, made.0, refl)
