use Rattle.std.proofs.Common.{rules, Vec, Global, ◌≡◌, ◌+◌, ◌++◌, ◌∷◌, ◌≤◌, [], List, ℕ, arith, map, take, length, refl, sym, ◌∙◌, ap}
use Rattle.std.proofs.lemmas.List.{map_push, take_all, take_more}
use Rattle.oa_group_commit.proofs.Ends.{underway_ended}
use Rattle.oa_group_commit.proofs.Takes.{underway_start, underway_taken}
use Rattle.oa_server.specs.OpenGroups.{grouping}
use Rattle.oa_server.specs.promise.ServerMachine.{server_machine}
use Rattle.oa_server.proofs.AnsweredAfterFault.{late_ended, late_more, late_none}
use Rattle.oa_server.proofs.Settled.{ready_none}
use Rattle.oa_server.proofs.grouping.run_over.Goals as goal

abbrev bytes : Vec ℕ Global → List ℕ
bytes v = v.items

pub bodies-init : goal.bodies-init
bodies-init g c =
    let made = c.in_ok-open_group.ensures in
    record {
      ready = rw (made.replies, made.batch, made.size) (ready_none c.args.store.now c.args.group _ c.requires.positive made.places);
      banks = c.requires.banks;
      size = made.size;
      count = search rules;
      places = search rules;
      going = λ going.
          rw (made.replies, made.batch, c.in_ok-out.ensures.items)
          (underway_start server_machine {g = g.D.Disk} (λ d f honest since. g.met.D.Disk.only_now d f honest since)
          (grouping c.args.store.now c.args.host.now [] []) c.args.group going refl refl);
      late = λ stopped. rw c.in_ok-out.ensures.items (late_none c.args.store.now c.args.host.now stopped);
    }

pub bodies-preserved : goal.bodies-preserved
bodies-preserved g c =
    let bodies = c.args.bodies.now in
    let i = c.bodies.body-index in
    let body = c.body-item.result in
    let old = grouping c.bodies.store c.bodies.host c.bodies.open_group.replies.items c.bodies.open_group.batch in
    let new = grouping c.take_on.new.store c.take_on.new.host c.take_on.new.open_group.replies.items c.take_on.new.open_group.batch in
    let taken = c.take_on.ensures.taken in
    let so_far = c.bodies.invariant in
    let more : map bytes (take (i + 1) bodies) ≡ map bytes (take i bodies) ++ bytes body ∷ [] =
    rw (take_more bodies i body c.bodies-test.true, sym c.body-item.is) (map_push bytes (take i bodies) body) in
    record {
      ready = c.take_on.ensures.ready;
      banks = c.take_on.ensures.banks;
      size = c.take_on.ensures.size ∙ so_far.size;
      count = search rules;
      places = search rules;
      going = λ going.
          rw (more, taken.out)
          (underway_taken server_machine {g = g.D.Disk} (λ d f honest since. g.met.D.Disk.only_now d f honest since)
          (grouping c.args.store.now c.args.host.now [] []) c.args.group old new (map bytes (take i bodies)) c.bodies.out.items (bytes body) taken.told
          (so_far.going going) (rw (so_far.size, c.deref.ensures.value) at taken.is));
      late = λ stopped.
          rw (more, taken.out)
          (late_more c.args.store.now c.bodies.store c.take_on.new.store c.args.host.now c.bodies.host c.take_on.new.host
          (map bytes (take i bodies)) c.bodies.out.items c.args.group (bytes body) taken.told
          c.bodies.open_group.replies.items c.take_on.new.open_group.replies.items c.bodies.open_group.batch c.take_on.new.open_group.batch
          (so_far.late stopped) (rw (so_far.size, c.deref.ensures.value) at taken.is));
    }

pub returns-clause-served : goal.returns-clause-served
returns-clause-served g c going =
    let bodies = c.args.bodies.now in
    let i = c.bodies.body-index in
    let old = grouping c.bodies.store c.bodies.host c.bodies.open_group.replies.items c.bodies.open_group.batch in
    let new = grouping c.finish_on.new.store c.bodies.host c.finish_on.new.open_group.replies.items c.finish_on.new.open_group.batch in
    let ended = c.finish_on.ensures.ended in
    let end : length bodies ≤ i = omega (arith, c.bodies-test.false) in
    let whole : map bytes (take i bodies) ≡ map bytes bodies = ap (λ (l : List (Vec ℕ Global)). map bytes l) (take_all i bodies end) in
    rw (sym whole, ended.out)
    (underway_ended server_machine {g = g.D.Disk} (λ d f honest since. g.met.D.Disk.only_now d f honest since)
    (grouping c.args.store.now c.args.host.now [] []) c.args.group old new (map bytes (take i bodies)) c.bodies.out.items ended.told
    (c.bodies.invariant.going going) ended.is)

pub returns-clause-late : goal.returns-clause-late
returns-clause-late g c stopped =
    let bodies = c.args.bodies.now in
    let i = c.bodies.body-index in
    let ended = c.finish_on.ensures.ended in
    let end : length bodies ≤ i = omega (arith, c.bodies-test.false) in
    let whole : map bytes (take i bodies) ≡ map bytes bodies = ap (λ (l : List (Vec ℕ Global)). map bytes l) (take_all i bodies end) in
    rw (sym whole, ended.out)
    (late_ended c.args.store.now c.bodies.store c.finish_on.new.store c.args.host.now c.bodies.host c.bodies.host
    (map bytes (take i bodies)) c.bodies.out.items ended.told
    c.bodies.open_group.replies.items c.finish_on.new.open_group.replies.items c.bodies.open_group.batch c.finish_on.new.open_group.batch
    (c.bodies.invariant.late stopped) ended.is)
