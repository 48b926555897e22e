use Rattle.std.proofs.Common.{[], refl, ap, subst, arith, min}
use Rattle.std.proofs.lemmas.Result.{err_from_is_err_and}
use Rattle.oa_disk.specs.promise.Memory.{memory_contents, memory_history, moments_of}
use Rattle.oa_disk.specs.Replaying.{since_falls}
use Rattle.oa_group_commit.proofs.Calling.{session_ended}
use Rattle.oa_decision.specs.promise.States.{State}
use Rattle.oa_server.specs.promise.ServerMachine.{server_machine}
use Rattle.oa_server.specs.promise.SharedMachine.{Shared, shared, shared_machine}
use Rattle.oa_server.specs.promise.Storages.{Serves}
use Rattle.oa_turn.specs.promise.Beginnings.{CanBegin}
use Rattle.oa_history.specs.promise.Framed.{ServesShared}
use Rattle.oa_history.specs.promise.CrashHistories.{made_calls}
use Rattle.oa_history.specs.promise.DurablePrefixes.{CallSequence, KeepsDurablePrefix}
use Rattle.oa_history.proofs.CallsOverStore.{requests_are_served}
use Rattle.oa_history.proofs.ChunkedSource.{with_cut}
use Rattle.oa_history.proofs.ForMany.{CanBeginShared, clients_are_served, groups_begin_for_many, is_over_store, opened_again_for_many, sits_over, without_locks}
use Rattle.oa_history.proofs.Found.{opened_again}
use Rattle.oa_history.proofs.Leaving.{leaves, min_at}
use Rattle.oa_history.proofs.stopping.stopped.Goals as goal

pub returns-in_ok-answers-in-Calls-clause-stopped : goal.returns-in_ok-answers-in-Calls-clause-stopped
returns-in_ok-answers-in-Calls-clause-stopped c = with_cut c.cut.result c.cut.ensures.heard c.cut.ensures.torn c.cut.ensures.left
    (λ r heard torn may before kept.
    let session = c.args.session.now in
    let image = memory_contents r.1 in
    let disk = c.into_disk.result in
    let first = c.in_ok-server.field-0.server.engine in
    let last = c.answered.new.server.engine in
    let calls = made_calls c.as_slice.result.now c.in_ok-answers-in-Calls.answers.items in
    let begins = c.in_ok-server.ensures.begins before kept in
    let made = subst (λ (s : State). CallSequence Serves first.storage s calls last.storage last.host) begins.host c.in_ok-answers-in-Calls.ensures.made in
    let left = leaves server_machine CanBegin opened_again c.no_trace_of_groups.ensures c.what_was_served_is_served_again.ensures.groups
    c.what_was_served_is_served_again.ensures.opened _
    c.a_crash_keeps_what_was_acknowledged.ensures.stopped c.a_crash_keeps_what_was_acknowledged.ensures.all
    c.args.disk calls before kept.begins (min session.moment (moments_of disk)) session.moment image (omega (arith, c.requires.start))
    Serves (requests_are_served _) c.sessions_go_on.ensures.late first.storage last.storage last.host disk begins.over made c.into_disk.ensures
    (min_at (min session.moment (moments_of disk)) session.moment (moments_of disk) (moments_of disk) refl refl)
    (λ k le. since_falls (memory_history disk) k (min session.moment (moments_of disk)) image le may) in (
      left.after,
      record {
        start = c.args.disk;
        fresh = c.requires;
        holds_found = refl;
        first = c.in_ok-server.field-0;
        begins = begins;
        played = rw (heard.0, heard.1, c.in-Calls.is, ← c.as_slice.ensures.value) (record {
          calls = calls;
          last = last.storage;
          end = last.host;
          asks = record { all = c.in_ok-answers-in-Calls.ensures.all; are = refl };
          made = made;
          disk = c.into_disk.ensures;
          stops = left.stops;
        });
        torn = rw heard.1 torn;
        holds = left.holds;
      },
      record { holds = left.holds; begins = left.begins; unlocked = left.unlocked },
    ))

pub returns-in_ok-written-in-Stream-clause-stopped : goal.returns-in_ok-written-in-Stream-clause-stopped
returns-in_ok-written-in-Stream-clause-stopped c =
    with_cut c.cut-in-Stream.result c.cut-in-Stream.ensures.heard c.cut-in-Stream.ensures.torn c.cut-in-Stream.ensures.left (λ r heard torn may before kept.
    let session = c.args.session.now in
    let image = memory_contents r.1 in
    let disk = c.into_disk-in-Stream.result in
    let first = c.in_ok-server.field-0.server.engine in
    let last = c.written.new.server.engine in
    let asked = c.in_ok-written-in-Stream.ensures.written in
    let begins = c.in_ok-server.ensures.begins before kept in
    let made = subst (λ (s : State). CallSequence Serves first.storage s asked.0 last.storage last.host) begins.host asked.2 in
    let left = leaves server_machine CanBegin opened_again c.no_trace_of_groups.ensures c.what_was_served_is_served_again.ensures.groups
    c.what_was_served_is_served_again.ensures.opened _
    c.a_crash_keeps_what_was_acknowledged.ensures.stopped c.a_crash_keeps_what_was_acknowledged.ensures.all
    c.args.disk asked.0 before kept.begins (min session.moment (moments_of disk)) session.moment image (omega (arith, c.requires.start))
    Serves (requests_are_served _) c.sessions_go_on.ensures.late first.storage last.storage last.host disk begins.over made c.into_disk-in-Stream.ensures
    (min_at (min session.moment (moments_of disk)) session.moment (moments_of disk) (moments_of disk) refl refl)
    (λ k le. since_falls (memory_history disk) k (min session.moment (moments_of disk)) image le may) in (
      left.after,
      record {
        start = c.args.disk;
        fresh = c.requires;
        holds_found = refl;
        first = c.in_ok-server.field-0;
        begins = begins;
        played = rw (heard.0, heard.1, c.in-Stream.is) (record {
          calls = asked.0;
          last = last.storage;
          end = last.host;
          asks = asked.1;
          made = made;
          disk = c.into_disk-in-Stream.ensures;
          stops = left.stops;
        });
        torn = rw heard.1 torn;
        holds = left.holds;
      },
      record { holds = left.holds; begins = left.begins; unlocked = left.unlocked },
    ))

pub returns-in_ok-written-in-Frames-clause-stopped : goal.returns-in_ok-written-in-Frames-clause-stopped
returns-in_ok-written-in-Frames-clause-stopped c =
    with_cut c.cut-in-Frames.result c.cut-in-Frames.ensures.heard c.cut-in-Frames.ensures.torn c.cut-in-Frames.ensures.left (λ r heard torn may before kept.
    let session = c.args.session.now in
    let image = memory_contents r.1 in
    let disk = c.into_disk-in-Frames.result in
    let first = c.in_ok-server.field-0.server.engine in
    let last = c.framed.new.server.engine in
    let begins = c.in_ok-server.ensures.begins before kept in
    let sits = sits_over c.args.disk before c.requires.barrier (λ d. refl) kept.holds first.storage begins.found begins.over in
    let asked = c.in_ok-written-in-Frames.ensures.written (is_over_store _ first.storage sits) in
    let made = subst (λ (s : State). CallSequence ServesShared first.storage (shared s []) asked.0 last.storage asked.1) begins.host asked.3 in
    let again = c.what_was_served_is_served_again.ensures in
    let left = leaves shared_machine CanBeginShared opened_again_for_many c.many_clients.ensures.others (groups_begin_for_many again.turn)
    (λ one. again.opened one.state) _
    c.many_clients.ensures.stopped (λ old new first calls last session m le. session_ended shared_machine _ _ old new first calls last session m le)
    c.args.disk asked.0 (shared before []) kept.begins (min session.moment (moments_of disk)) session.moment image (omega (arith, c.requires.start))
    ServesShared (clients_are_served _) c.many_clients.ensures.late first.storage last.storage asked.1 disk sits made c.into_disk-in-Frames.ensures
    (min_at (min session.moment (moments_of disk)) session.moment (moments_of disk) (moments_of disk) refl refl)
    (λ k le. since_falls (memory_history disk) k (min session.moment (moments_of disk)) image le may) in (
      left.after.state,
      record {
        start = c.args.disk;
        fresh = c.requires;
        holds_found = refl;
        first = c.in_ok-server.field-0;
        begins = begins;
        played = rw (heard.0, heard.1, c.in-Frames.is) (record {
          calls = asked.0;
          last = last.storage;
          end = asked.1;
          asks = asked.2;
          made = made;
          disk = c.into_disk-in-Frames.ensures;
          stops = subst (λ (s : Shared). KeepsDurablePrefix shared_machine session.moment asked.0 (shared before []) s)
              (without_locks left.after left.unlocked) left.stops;
        });
        torn = rw heard.1 torn;
        holds = left.holds;
      },
      record { holds = left.holds; begins = left.begins; unlocked = ap (λ (s : Shared). s.state) left.unlocked },
    ))

pub returns-in_err-server-clause-wanting : goal.returns-in_err-server-clause-wanting
returns-in_err-server-clause-wanting c = let p = err_from_is_err_and c.from_residual.result c.from_residual.ensures.1 in
    rw (p.1, p.2) (λ before kept. c.in_err-server.ensures.wanting before kept)
