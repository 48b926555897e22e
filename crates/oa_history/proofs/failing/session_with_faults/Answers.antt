use Rattle.std.proofs.Common.{[], ◌≡◌, ◌≤◌, Result, IfErr, IfOk, refl, ◌∙◌, ap, subst, arith}
use Rattle.std.proofs.lemmas.Result.{IfErr-at_err}
use Rattle.oa_disk.specs.promise.Fuse.{inner_of}
use Rattle.oa_disk.specs.promise.Memory.{memory_history, memory_image, moments_of}
use Rattle.oa_disk.specs.Replaying.{counts_now}
use Rattle.oa_disk.specs.declared.disk.DeviceFault.{DeviceFault}
use Rattle.oa_disk.specs.declared.memory.MemoryDisk.{MemoryDisk}
use Rattle.oa_decision.specs.promise.States.{State}
use Rattle.oa_server.specs.promise.ServerMachine.{server_machine}
use Rattle.oa_server.specs.promise.Storages.{disk_of}
use Rattle.oa_history.specs.Kept.{IsRecoverable}
use Rattle.oa_history.specs.promise.FaultHistories.{Answered, BeginsOver, HoldsAlone, told_calls}
use Rattle.oa_history.specs.declared.failing.FaultyServer.{FaultyServer}
use Rattle.oa_history.proofs.Withstanding.{all_answered, all_kept, at_start, ghosts_of, session_of}
use Rattle.oa_history.proofs.failing.session_with_faults.Goals as goal

pub returns-in_ok-told-in-Ok-clause-session_with_faults : goal.returns-in_ok-told-in-Ok-clause-session_with_faults
returns-in_ok-told-in-Ok-clause-session_with_faults c before kept =
    let disk = c.args.disk in
    let calls = c.args.calls.now in
    let told = c.in_ok-told-in-Ok.told.items in
    let begins =
    subst (λ (r : Result FaultyServer (MemoryDisk × DeviceFault)). IfOk r
    (λ fused. (state : State) → IsRecoverable disk state → BeginsOver disk c.args.first_failing fused.server state)) c.in-Ok.is c.in_ok-fused.ensures.begins in
    let from = begins before kept in
    let fuse = from.fuse in
    let first = c.in-Ok.fused.server.engine in
    let last = c.told_by.new.server.engine in
    let now = disk_of last.storage in
    let answered : Answered first.storage first.host calls told last.storage last.host = c.in_ok-told-in-Ok.ensures.answered in
    let made = subst (λ (s : State). Answered first.storage s calls told last.storage last.host) from.begins.host answered in
    let work = all_answered (ghosts_of last.storage) fuse before c.sessions_go_on.ensures.called c.sessions_go_on.ensures.goes_on c.sessions_go_on.ensures.late
    first.storage last.storage before last.host [] calls told (at_start server_machine (ghosts_of last.storage) fuse before first.storage from.begins.over)
    made in
    let session = session_of server_machine (ghosts_of last.storage) fuse before last.storage (told_calls calls told) last.host work in
    let zero : moments_of fuse.disk ≡ 0 = ap moments_of from.within ∙ c.requires.start in
    let later : moments_of fuse.disk ≤ moments_of now.disk = omega (arith, zero) in
    let images = all_kept server_machine (ghosts_of last.storage) fuse before c.a_crash_keeps_what_was_acknowledged.ensures.stopped
    c.a_crash_keeps_what_was_acknowledged.ensures.all now (told_calls calls told) last.host session later
    (λ t l below is. counts_now (memory_history now.disk) t l below is) in
    let one = c.sessions_go_on.ensures.one fuse now before last.host (told_calls calls told) session in
    let back_is : c.into_inner-back.result ≡ inner_of now = c.into_inner-back.ensures ∙ ap inner_of c.into_disk.ensures in
    record {
      groups = session.groups;
      count = session.count;
      played = record {
        first = c.in-Ok.fused;
        begins = from;
        last = record { server = c.told_by.new.server };
        answered = answered;
        handed_back = back_is;
        fault = session.stopped;
        state = last.host;
        plays = session.served;
        all = one.0;
        all_but_one = one.1;
      };
      unopened = tt;
      kept = λ image is. images image (subst (λ (d : MemoryDisk). memory_image d image) back_is is);
    }

pub returns-in-Err-clause-session_with_faults : goal.returns-in-Err-clause-session_with_faults
returns-in-Err-clause-session_with_faults c before kept =
    let disk = c.args.disk in
    let refused =
    subst (λ (r : Result FaultyServer (MemoryDisk × DeviceFault)). IfErr r (λ e. (state : State) → IsRecoverable disk state → HoldsAlone e.0 state)) c.in-Err.is
    c.in_ok-fused.ensures.refused in
    let unopened = IfErr-at_err _ c.in-Err.is c.in_ok-fused.ensures.tells in
    let holds = refused before kept in
    record {
      groups = [];
      count = 0;
      played = tt;
      unopened = (unopened before kept, refl);
      kept = λ image is. record {
        done = [];
        later = [];
        groups_are = refl;
        enough = omega arith;
        state = before;
        run = refl;
        holds = holds image is;
      };
    }
