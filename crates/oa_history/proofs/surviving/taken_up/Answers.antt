use Rattle.std.proofs.Common.{refl}
use Rattle.std.proofs.lemmas.Result.{err_from_is_err_and}
use Rattle.oa_disk.specs.promise.Memory.{memory_history}
use Rattle.oa_disk.specs.Replaying.{contents_size}
use Rattle.oa_turn.proofs.Texts.{is_read}
use Rattle.oa_history.proofs.TakenUp.{all_hold, host_is, never_refused, opened_so}
use Rattle.oa_history.proofs.surviving.taken_up.Goals as goal

pub returns-in-Ok-clause-taken : goal.returns-in-Ok-clause-taken
returns-in-Ok-clause-taken c state holds begins =
    let disk = c.args.disk in
    let library = c.in_ok-library.library in
    let same = c.in_ok-library.ensures.kept state holds begins.checked in
    let law = c.an_opening_finds_what_was_kept.ensures in
    let engine = c.in-Ok.server.engine in
    let host = host_is disk library state (λ d. refl) holds begins same law.kept engine.storage engine.host c.in-Ok.ensures.library c.in-Ok.ensures.bank
    c.in-Ok.ensures.opened in
    record {
      host = host;
      found = opened_so disk library state (λ d. refl) holds begins same law.kept engine.storage engine.host host c.in-Ok.ensures.opened;
      over = all_hold disk library state (λ d. refl) holds begins same law.kept law.joins engine.storage engine.host.table c.in-Ok.ensures.opened;
    }

pub returns-clause-wanting : goal.returns-clause-wanting
returns-clause-wanting c state holds begins r =
    let disk = c.args.disk in
    never_refused disk c.in_ok-library.library state (λ d. refl) holds begins (c.in_ok-library.ensures.kept state holds begins.checked)
    c.one_tree.ensures (is_read c.marked_is_read.ensures) (contents_size disk.first.size (memory_history disk) disk.whole) _ c.in-Err.fault
    c.in-Err.ensures.refused r

pub returns-in_err-library-clause-wanting : goal.returns-in_err-library-clause-wanting
returns-in_err-library-clause-wanting c = let p = err_from_is_err_and c.from_residual.result c.from_residual.ensures.1 in
    rw (p.1, p.2) (λ state holds begins. c.in_err-library.ensures.wanting state holds begins.checked)
