use Rattle.std.proofs.Common.{◌≡◌, ap, ◌∙◌, ◌-◌, length, arith}
use Rattle.std.proofs.lemmas.List.{length-map}
use Rattle.std.specs.Prelude.{Some}
use Rattle.oa_cells.specs.Windows.{values, window_row}
use Rattle.oa_cells.proofs.Laid.{full_laid}
use Rattle.oa_cells.proofs.partial.Partial.of_full.Goals as goal

pub invariant_of-result : goal.invariant_of-result
invariant_of-result g c =
    let row = c.args.row in let len = c.args.len in let xs = values row in
    let long : length row ≡ length xs = ap length c.requires.0 ∙ length-map xs Some in let all : len ≡ length row = c.requires.1 in
    let none : 0 ≡ len - len = omega arith in
    record { count = omega (arith, long, all); fits = omega arith; shape = c.requires.0 ∙ full_laid xs ∙ ap (window_row 0 xs) none }
