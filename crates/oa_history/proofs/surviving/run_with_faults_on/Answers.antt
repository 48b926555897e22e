use Rattle.std.proofs.lemmas.Result.{err_from_is_err_and}
use Rattle.oa_disk.specs.promise.Memory.{memory_contents, memory_history}
use Rattle.oa_disk.specs.Replaying.{contents_is_image}
use Rattle.oa_group_commit.specs.promise.Groups.{concat_groups}
use Rattle.oa_history.proofs.Living.{shown_held, shown_library}
use Rattle.oa_history.proofs.surviving.run_with_faults_on.Goals as goal

pub returns-clause-survived : goal.returns-clause-survived
returns-clause-survived c state new =
    let back = c.in_ok-told.back in
    let session_with_faults = c.in_ok-told.ensures.session_with_faults state new in
    let kept = session_with_faults.kept (memory_contents back) (contents_is_image back.first.size (memory_history back) back.whole) in
    let begins = c.what_was_served_is_served_again.ensures.groups state kept.state (concat_groups kept.done) new.begins kept.run in
    record {
      back = back;
      session_with_faults = session_with_faults;
      kept = kept;
      taken_up = c.in_ok-opened.ensures.taken kept.state kept.holds begins;
      library = shown_library (memory_contents back) c.in_ok-text.text.items c.in_ok-text.table kept.state c.in_ok-text.ensures.shown kept.holds;
      table = shown_held (memory_contents back) c.in_ok-text.text.items c.in_ok-text.table kept.state c.in_ok-text.ensures.shown kept.holds;
    }

pub returns-in_err-told-clause-wanting : goal.returns-in_err-told-clause-wanting
returns-in_err-told-clause-wanting c = let p = err_from_is_err_and c.from_residual.result c.from_residual.ensures.1 in
    rw (p.1, p.2) (λ state new. c.in_err-told.ensures.wanting state new)

pub returns-in_err-text-clause-wanting : goal.returns-in_err-text-clause-wanting
returns-in_err-text-clause-wanting c =
    let p = err_from_is_err_and c.from_residual-in_err-text.result c.from_residual-in_err-text.ensures.1 in rw (p.1, p.2) (λ state new.
    let back = c.in_ok-told.back in
    let session_with_faults = c.in_ok-told.ensures.session_with_faults state new in
    let kept = session_with_faults.kept (memory_contents back) (contents_is_image back.first.size (memory_history back) back.whole) in
    c.in_err-text.ensures.wanting kept.state kept.holds)

pub returns-in_err-opened-clause-wanting : goal.returns-in_err-opened-clause-wanting
returns-in_err-opened-clause-wanting c =
    let p = err_from_is_err_and c.from_residual-in_err-opened.result c.from_residual-in_err-opened.ensures.1 in rw (p.1, p.2) (λ state new.
    let back = c.in_ok-told.back in
    let session_with_faults = c.in_ok-told.ensures.session_with_faults state new in
    let kept = session_with_faults.kept (memory_contents back) (contents_is_image back.first.size (memory_history back) back.whole) in
    let begins = c.what_was_served_is_served_again.ensures.groups state kept.state (concat_groups kept.done) new.begins kept.run in
    c.in_err-opened.ensures.wanting kept.state kept.holds begins)
