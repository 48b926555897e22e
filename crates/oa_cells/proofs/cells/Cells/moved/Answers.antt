use Rattle.std.proofs.Common.{◌≡◌, sym, ap, subst, ◌∙◌, ◌+◌, ◌≤◌, [], ◌++◌, length, arith}
use Rattle.std.proofs.lemmas.List.{nil_from_length}
use Rattle.oa_cells.proofs.Full.{is_full}
use Rattle.oa_cells.proofs.cells.Cells.moved.Goals as goal

pub invariant_of-result : goal.invariant_of-result
invariant_of-result g c =
    let full = is_full c.full.result c.cells.part.items c.full.ensures in
    let none : length c.cells.old.items ≤ 0 = subst (λ n. n ≤ 0) c.count.ensures c.cells-test.false in
    let count : c.args.len ≡ length c.cells.old.items + length c.cells.part.items = c.cells.invariant.len in
    let long : length c.full.result ≡ length c.cells.part.items = full.2 in
    (full.1, omega (arith, none, count, long))

pub returns : goal.returns
returns g c =
    let full = is_full c.full.result c.cells.part.items c.full.ensures in
    let none : length c.cells.old.items ≤ 0 = subst (λ n. n ≤ 0) c.count.ensures c.cells-test.false in
    let gone : c.cells.old.items ≡ [] = nil_from_length c.cells.old.items (omega (arith, none)) in
    full.0 ∙ ap (λ l. l ++ c.cells.part.items) (sym gone) ∙ c.cells.invariant.all
