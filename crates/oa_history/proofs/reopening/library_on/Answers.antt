use Rattle.std.proofs.Common.{◌∙◌}
use Rattle.std.proofs.lemmas.Result.{err_from_is_err_and}
use Rattle.oa_disk.specs.promise.Memory.{memory_contents}
use Rattle.oa_turn.proofs.Texts.{is_read}
use Rattle.oa_history.proofs.Living.{shown_library}
use Rattle.oa_printer.specs.promise.Canonical.{canonical}
use Rattle.oa_history.proofs.Marking.{its_library}
use Rattle.oa_history.proofs.Reading.{library_again, unread}
use Rattle.oa_history.proofs.reopening.library_on.Goals as goal

pub returns-in-Ok-clause-kept : goal.returns-in-Ok-clause-kept
returns-in-Ok-clause-kept c state holds checked =
    let text = shown_library (memory_contents c.args.disk.now) c.in_ok-text.text.items _ state c.in_ok-text.ensures.shown holds in
    library_again c.one_tree.ensures (is_read c.marked_is_read.ensures) c.as_slice.result.now c.in-Ok.library state.library checked
    (c.as_slice.ensures.value ∙ text) c.in-Ok.ensures.1

pub returns-in_err-text-clause-wanting : goal.returns-in_err-text-clause-wanting
returns-in_err-text-clause-wanting c = let p = err_from_is_err_and c.from_residual.result c.from_residual.ensures.1 in
    rw (p.1, p.2) (λ state holds checked. c.in_err-text.ensures.wanting state holds)

pub returns-clause-wanting : goal.returns-clause-wanting
returns-clause-wanting c state holds checked =
    let text = shown_library (memory_contents c.args.disk.now) c.in_ok-text.text.items _ state c.in_ok-text.ensures.shown holds in
    let read = is_read c.marked_is_read.ensures in
    let utf8 =
    c.canonical_is_utf8.ensures state.library (c.every_tree_is_printable.ensures (canonical state.library) state.library (read state.library checked)) in
    unread c.as_slice.result.now state.library c.in-Err.fault utf8 (its_library read state.library checked) (c.as_slice.ensures.value ∙ text) c.in-Err.ensures
