use Rattle.std.proofs.Common.{◌∙◌}
use Rattle.std.proofs.lemmas.Result.{IfErr-weaker, IfOk-weaker, err_from_is_err_and}
use Rattle.oa_disk.specs.promise.Memory.{memory_contents, memory_history}
use Rattle.oa_disk.specs.Replaying.{contents_size}
use Rattle.oa_decision.specs.promise.States.{state_of}
use Rattle.oa_table.specs.Tables.{first_table}
use Rattle.oa_history.proofs.Unmade.{unmade}
use Rattle.oa_history.proofs.history.run_history.Goals as goal

pub run_history_on-requires : goal.run_history_on-requires
run_history_on-requires c = c.in_ok-disk.ensures.settled

pub returns-clause-lived : goal.returns-clause-lived
returns-clause-lived c =
    let state = state_of c.args.bank c.args.library.now first_table in
    let disk = c.in_ok-disk.disk in
    let kept = c.in_ok-disk.ensures.kept in
    IfOk-weaker c.run_history_on.result _ _ (λ lived is. record {
      new = memory_contents disk;
      size = contents_size disk.first.size (memory_history disk) disk.whole ∙ c.in_ok-disk.ensures.size;
      holds = kept.holds;
      history = is state kept;
    }) c.run_history_on.ensures.lived

pub returns-clause-wanting : goal.returns-clause-wanting
returns-clause-wanting c =
    let state = state_of c.args.bank c.args.library.now first_table in
    IfErr-weaker c.run_history_on.result _ _ (λ fault is. unmade c.args.bank c.args.disk.first.size fault (is state c.in_ok-disk.ensures.kept))
    c.run_history_on.ensures.wanting

pub returns-in_err-disk-clause-wanting : goal.returns-in_err-disk-clause-wanting
returns-in_err-disk-clause-wanting c = let p = err_from_is_err_and c.from_residual.result c.from_residual.ensures.1 in
    rw (p.1, p.2) c.in_err-disk.ensures.wanting
