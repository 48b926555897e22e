use Rattle.std.proofs.Common.{◌≡◌, sym, ap, ◌∙◌, ◌<◌, length, arith}
use Rattle.std.specs.Prelude.{map, get_or, slice_get, slice_set, Some, None}
use Rattle.std.proofs.lemmas.List.{length-set}
use Rattle.oa_cells.specs.Windows.{values}
use Rattle.oa_cells.proofs.Full.{is_full, got, within, replaced}
use Rattle.oa_cells.proofs.cells.Cells.replace.Goals as goal

pub take-was-requires : goal.take-was-requires
take-was-requires g c =
    let i = c.self.inside in let xs = values i.row in let long : length xs ≡ length c.args.self.now = ap length c.self.view_is in
    let asked : c.args.index < length c.args.self.now = c.requires in
    let there = within xs c.args.index (omega (arith, long, asked)) in
    (there.0, ap (λ row. get_or row c.args.index None) c.self.invariant.0 ∙ got xs c.args.index ∙ there.1)

pub invariant_of-self : goal.invariant_of-self
invariant_of-self g c =
    let i = c.self.inside in let xs = values i.row in let k = c.args.index in
    let new : c.put.new.self ≡ map Some (slice_set xs k c.args.cell) = c.put.ensures
    ∙ ap (λ row. slice_set row k (Some c.args.cell)) (c.take-was.ensures.emptied ∙ ap (λ row. slice_set row k None) c.self.invariant.0)
    ∙ replaced xs k c.args.cell in
    let full = is_full c.put.new.self (slice_set xs k c.args.cell) new in
    (full.1, c.self.invariant.1 ∙ (is_full i.row xs c.self.invariant.0).2 ∙ sym (length-set xs k c.args.cell) ∙ sym full.2)

pub returns-clause-was : goal.returns-clause-was
returns-clause-was g c =
    let i = c.self.inside in let xs = values i.row in
    ap (λ l. slice_get l c.args.index) (sym c.self.view_is) ∙ sym (got xs c.args.index) ∙ ap (λ row. get_or row c.args.index None) (sym c.self.invariant.0)
    ∙ c.take-was.ensures.value

pub returns-clause-cells : goal.returns-clause-cells
returns-clause-cells g c =
    let i = c.self.inside in let xs = values i.row in let k = c.args.index in
    let new : c.put.new.self ≡ map Some (slice_set xs k c.args.cell) = c.put.ensures
    ∙ ap (λ row. slice_set row k (Some c.args.cell)) (c.take-was.ensures.emptied ∙ ap (λ row. slice_set row k None) c.self.invariant.0)
    ∙ replaced xs k c.args.cell in
    (is_full c.put.new.self (slice_set xs k c.args.cell) new).0 ∙ ap (λ l. slice_set l k c.args.cell) c.self.view_is
