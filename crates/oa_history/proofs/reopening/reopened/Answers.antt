use Rattle.std.proofs.Common.{refl}
use Rattle.std.proofs.lemmas.Result.{err_from_is_err_and}
use Rattle.oa_history.proofs.Found.{begun_on, never_refused, serves, sits}
use Rattle.oa_history.proofs.reopening.reopened.Goals as goal

pub returns-in-Ok-clause-begins : goal.returns-in-Ok-clause-begins
returns-in-Ok-clause-begins c state kept =
    let disk = c.args.disk in
    let library = c.in_ok-library.library in
    let same = c.in_ok-library.ensures.kept state kept.holds kept.begins.checked in
    let engine = c.in-Ok.server.engine in
    let host = serves disk library state c.requires.barrier (λ d. refl) kept.holds kept.unlocked same engine.storage engine.host c.in-Ok.ensures.library
    c.in-Ok.ensures.bank c.in-Ok.ensures.opened in
    record {
      host = host;
      found = begun_on disk library state engine.host engine.storage c.in-Ok.ensures.library host c.in-Ok.ensures.opened;
      over = sits disk library state c.requires.barrier (λ d. refl) kept.holds kept.unlocked same c.an_opening_finds_what_was_kept.ensures.begins engine.storage
          engine.host.table c.in-Ok.ensures.opened;
    }

pub returns-clause-wanting : goal.returns-clause-wanting
returns-clause-wanting c state kept r =
    never_refused c.args.disk c.in_ok-library.library state c.requires.barrier (λ d. refl) kept.holds kept.unlocked
    (c.in_ok-library.ensures.kept state kept.holds kept.begins.checked) kept.begins _ c.in-Err.fault c.in-Err.ensures.refused r

pub returns-in_err-library-clause-wanting : goal.returns-in_err-library-clause-wanting
returns-in_err-library-clause-wanting c = let p = err_from_is_err_and c.from_residual.result c.from_residual.ensures.1 in
    rw (p.1, p.2) (λ state kept. c.in_err-library.ensures.wanting state kept.holds kept.begins.checked)
