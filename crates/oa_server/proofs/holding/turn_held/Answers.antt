use Rattle.std.proofs.Common.{ap, arith, rules, sym, ◌∙◌}
use Rattle.oa_store.proofs.Committed.{still_carried}
use Rattle.oa_turn.specs.promise.Events.{held_of}
use Rattle.oa_turn.proofs.SameLibrary.{ordinary_bank}
use Rattle.oa_server.proofs.TurnsOverStore.{answered, carried}
use Rattle.oa_server.proofs.holding.turn_held.Goals as goal

pub returns-in-Answered-clause-turn : goal.returns-in-Answered-clause-turn
returns-in-Answered-clause-turn g c = answered c.args.body.now c.in-Answered.reply c.args.batch.now c.args.host.now c.plan.new.self c.requires.plain
    c.in-Answered.ensures.plans.0 c.in-Answered.ensures.plans.1 c.in-Answered.ensures.quiet

pub returns-in-Answered-clause-holds : goal.returns-in-Answered-clause-holds
returns-in-Answered-clause-holds g c = record {
  carries = still_carried {g = g.D.Disk} (λ d f honest since. g.met.D.Disk.only_now d f honest since) c.args.batch.now _ c.args.store.now;
  undue = search rules;
  room = search rules;
  going = search rules;
  stops = search rules;
  goes = search rules;
}

pub returns-in-Change-clause-holds : goal.returns-in-Change-clause-holds
returns-in-Change-clause-holds g c =
    let said = c.hold.ensures.holds in record {
      carries = carried c.args.batch.now c.args.store.now c.hold.new.store (ap held_of c.in-Change.ensures.plans.2) said.carries;
      undue = said.undue;
      room = said.room;
      going = said.going;
      stops = said.stops;
      goes = said.goes;
    }

pub returns-in-Answered-clause-banks : goal.returns-in-Answered-clause-banks
returns-in-Answered-clause-banks g c = c.requires.banks
    ∙ sym (ordinary_bank c.args.host.now c.plan.new.self c.args.body.now c.in-Answered.reply c.in-Answered.ensures.plans.0)

pub returns-in-Answered-clause-once : goal.returns-in-Answered-clause-once
returns-in-Answered-clause-once g c honest = omega arith

pub returns-in-Change-clause-once : goal.returns-in-Change-clause-once
returns-in-Change-clause-once g c = rw c.in-Change.ensures.plans.2 at c.hold.ensures.once
