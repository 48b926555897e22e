use Rattle.std.proofs.Common.{◌≡◌, sym, ap, ◌∙◌, ◌+◌, length, arith}
use Rattle.std.specs.Prelude.{slice_get}
use Rattle.oa_cells.specs.Windows.{values}
use Rattle.oa_cells.proofs.Filled.{each_cell}
use Rattle.oa_cells.proofs.Full.{is_full}
use Rattle.oa_cells.proofs.cells.Cells.filled_by.Goals as goal

pub invariant_of-result : goal.invariant_of-result
invariant_of-result g c =
    let part = c.in_ok-part-2.part in let full = is_full c.full.result part.items c.full.ensures in
    let count : 0 + length part.items ≡ c.args.len = c.in_ok-part-2.ensures.filled.3 in let long : length c.full.result ≡ length part.items = full.2 in
    (full.1, omega (arith, count, long))

pub returns-clause-count : goal.returns-clause-count
returns-clause-count g c =
    let part = c.in_ok-part-2.part in let full = is_full c.full.result part.items c.full.ensures in
    let count : 0 + length part.items ≡ c.args.len = c.in_ok-part-2.ensures.filled.3 in let long : length (values c.full.result) ≡ length part.items =
    ap length full.0 in
    omega (arith, count, long)

pub returns-clause-filled : goal.returns-clause-filled
returns-clause-filled g c =
    let part = c.in_ok-part-2.part in let read : values c.full.result ≡ part.items = (is_full c.full.result part.items c.full.ensures).0 in
    rw read c.in_ok-part-2.ensures.filled.0

pub returns-clause-each : goal.returns-clause-each
returns-clause-each g c = λ k x here.
    let part = c.in_ok-part-2.part in let read : values c.full.result ≡ part.items = (is_full c.full.result part.items c.full.ensures).0 in
    each_cell _ c.args.fill 0 part.items c.in_ok-part-2.ensures.filled.0 k k (omega arith) x (ap (λ l. slice_get l k) (sym read) ∙ here)
