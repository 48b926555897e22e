use Rattle.std.proofs.Common.{List, ℕ, sym, subst}
use Rattle.std.proofs.lemmas.Result.{IfErr-weaker, IfOk-weaker, err_from_is_err_and}
use Rattle.oa_group_commit.specs.promise.Groups.{HoldsState}
use Rattle.oa_server.specs.promise.ServerMachine.{server_machine}
use Rattle.oa_decision.specs.promise.States.{state_of}
use Rattle.oa_table.specs.Tables.{first_table}
use Rattle.oa_history.proofs.Unmade.{unmade}
use Rattle.oa_history.proofs.surviving.run_with_faults.Goals as goal

pub run_with_faults_on-requires : goal.run_with_faults_on-requires
run_with_faults_on-requires c = c.in_ok-disk.ensures.settled

pub returns-clause-survived : goal.returns-clause-survived
returns-clause-survived c =
    let state = state_of c.args.bank c.args.library.now first_table in
    let new = c.in_ok-disk.ensures.kept in
    IfOk-weaker c.run_with_faults_on.result _ _ (λ survived is. record {
      new = c.in_ok-disk.disk;
      size = c.in_ok-disk.ensures.size;
      holds = λ image here. subst (λ (l : List ℕ). HoldsState server_machine state l) (sym (c.in_ok-disk.ensures.settled.barrier image here)) new.holds;
      failing = is state new;
    }) c.run_with_faults_on.ensures.survived

pub returns-clause-wanting : goal.returns-clause-wanting
returns-clause-wanting c =
    let state = state_of c.args.bank c.args.library.now first_table in
    IfErr-weaker c.run_with_faults_on.result _ _ (λ fault is. unmade c.args.bank c.args.disk.first.size fault (is state c.in_ok-disk.ensures.kept))
    c.run_with_faults_on.ensures.wanting

pub returns-in_err-disk-clause-wanting : goal.returns-in_err-disk-clause-wanting
returns-in_err-disk-clause-wanting c = let p = err_from_is_err_and c.from_residual.result c.from_residual.ensures.1 in
    rw (p.1, p.2) c.in_err-disk.ensures.wanting
