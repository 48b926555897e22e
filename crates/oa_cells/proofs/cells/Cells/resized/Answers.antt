use Rattle.std.proofs.Common.{rules, ◌≡◌, sym, ap, ◌∙◌, ◌+◌, ◌++◌, length, arith}
use Rattle.std.specs.Prelude.{take, slice_get, min}
use Rattle.std.proofs.lemmas.List.{length-take, take_min}
use Rattle.std.proofs.lemmas.Result.{err_from_is_err_and}
use Rattle.oa_cells.proofs.Filled.{each_behind}
use Rattle.oa_cells.proofs.cells.Cells.resized.Goals as goal

pub returns-clause-filled : goal.returns-clause-filled
returns-clause-filled g c =
    let part = c.in_ok-part.part in let old = c.args.self.now in let fill = c.in_ok-part.ensures in
    let now : c.replace_with.new.dest ≡ take part.before old ++ part.items = search rules in
    let first : part.before ≡ min c.args.len (length old) = fill.shape.0 ∙ ap (min c.args.len) c.len-kept.ensures in
    (part.items, now ∙ ap (λ n. take n old ++ part.items) first ∙ ap (λ l. l ++ part.items) (take_min c.args.len old), rw (← c.len-kept.ensures) fill.filled)

pub returns-clause-each : goal.returns-clause-each
returns-clause-each g c = λ k x le here.
    let part = c.in_ok-part.part in let old = c.args.self.now in let fill = c.in_ok-part.ensures in
    let now : c.replace_with.new.dest ≡ take part.before old ++ part.items = search rules in
    let kept : c.len-kept.result ≡ length old = c.len-kept.ensures in let first : part.before ≡ min c.args.len c.len-kept.result = fill.shape.0 in
    let all : part.before + length part.items ≡ c.args.len = fill.shape.1 in let front : length (take part.before old) ≡ min part.before (length old) =
    length-take part.before old in
    each_behind _ c.args.fill (take part.before old) part.items c.len-kept.result c.args.len (omega (arith, front, first, kept))
    (omega (arith, front, first, all, kept)) fill.filled k x (omega (arith, le, kept)) (ap (λ l. slice_get l k) (sym now) ∙ here)

pub returns-in_err-part-clause-error : goal.returns-in_err-part-clause-error
returns-in_err-part-clause-error g c =
    let exit = err_from_is_err_and c.from_residual.result c.from_residual.ensures.1 in
    rw (exit.1, exit.2) (rw (← c.len-kept.ensures) c.in_err-part.ensures.error)
