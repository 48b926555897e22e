use Rattle.std.proofs.Common.{List, refl, sym, subst}
use Rattle.std.proofs.lemmas.List.{take_all}
use Rattle.std.proofs.lemmas.Result.{err_from_is_err_and}
use Rattle.oa_disk.specs.promise.Memory.{memory_contents}
use Rattle.oa_history.specs.promise.CrashHistories.{HistorySteps}
use Rattle.oa_history.specs.declared.session.Step.{Step}
use Rattle.oa_history.proofs.Living.{lives_more, shown_library, shown_table}
use Rattle.oa_history.proofs.history.run_history_on.Goals as goal

pub steps-init : goal.steps-init
steps-init c = record { settled = c.requires; lives = λ first kept. (first, rw c.new-heard.ensures.items (refl, refl), kept) }

pub stepped-requires : goal.stepped-requires
stepped-requires c = c.steps.invariant.settled

pub steps-preserved : goal.steps-preserved
steps-preserved c = record {
  settled = c.in_ok-told.ensures.settled;
  lives = λ first kept.
      let lives = c.steps.invariant.lives first kept in
      let told = c.in_ok-told.ensures.stepped lives.0 lives.2 in (
        told.0,
        lives_more (memory_contents c.args.disk) first c.args.steps.now c.steps.step-index c.steps.heard.items c.push.new.self.items
            (memory_contents c.steps.disk) lives.0
            c.step-item.result c.in_ok-told.told (memory_contents c.in_ok-told.left) told.0 c.steps-test.true
            (sym c.step-item.is) c.in_ok-push.ensures.items lives.1 told.1,
        told.2,
      );
}

pub reopened-requires : goal.reopened-requires
reopened-requires c = c.steps.invariant.settled

pub returns-clause-lived : goal.returns-clause-lived
returns-clause-lived c first kept =
    let lives = c.steps.invariant.lives first kept in
    let disk = c.steps.disk in
    let held = lives.2 in
    record {
      left = memory_contents disk;
      last = lives.0;
      lives = subst (λ (ss : List Step). HistorySteps (memory_contents c.args.disk) first ss c.steps.heard.items (memory_contents disk) lives.0)
          (take_all c.steps.step-index c.args.steps.now c.steps-test.false) lives.1;
      end = disk;
      holds_left = refl;
      begins = c.in_ok-opened.ensures.begins lives.0 held;
      library = shown_library (memory_contents disk) c.in_ok-text.text.items c.in_ok-text.table lives.0 c.in_ok-text.ensures.shown held.holds;
      table = shown_table (memory_contents disk) c.in_ok-text.text.items c.in_ok-text.table lives.0 held.unlocked c.in_ok-text.ensures.shown held.holds;
    }

pub returns-in_err-told-clause-wanting : goal.returns-in_err-told-clause-wanting
returns-in_err-told-clause-wanting c = let p = err_from_is_err_and c.from_residual.result c.from_residual.ensures.1 in
    rw (p.1, p.2) (λ first kept. let lives = c.steps.invariant.lives first kept in c.in_err-told.ensures.wanting lives.0 lives.2)

pub returns-in_err-text-clause-wanting : goal.returns-in_err-text-clause-wanting
returns-in_err-text-clause-wanting c = let p = err_from_is_err_and c.from_residual-in_err-text.result c.from_residual-in_err-text.ensures.1 in
    rw (p.1, p.2) (λ first kept. let lives = c.steps.invariant.lives first kept in c.in_err-text.ensures.wanting lives.0 lives.2.holds)

pub returns-in_err-opened-clause-wanting : goal.returns-in_err-opened-clause-wanting
returns-in_err-opened-clause-wanting c = let p = err_from_is_err_and c.from_residual-in_err-opened.result c.from_residual-in_err-opened.ensures.1 in
    rw (p.1, p.2) (λ first kept. let lives = c.steps.invariant.lives first kept in c.in_err-opened.ensures.wanting lives.0 lives.2)
