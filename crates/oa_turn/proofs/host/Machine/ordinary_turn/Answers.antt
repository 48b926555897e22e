use Rattle.std.proofs.Common.{inl}
use Rattle.oa_turn.proofs.Bringing.{answers, drafted, no_release}
use Rattle.oa_turn.proofs.SameLibrary.{ordinary_bank}
use Rattle.oa_turn.proofs.host.Machine.ordinary_turn.Goals as goal

pub returns-in-Some-Answered-clause-turn : goal.returns-in-Some-Answered-clause-turn
returns-in-Some-Answered-clause-turn c =
    inl (record {
      kind = c.requires.plain;
      turn = answers c.args.self.now c.args.body.now c.in-Some-Answered.reply (rw c.in-Some-Answered.field-0-is at c.in-Some-Answered.ensures);
    })

pub returns-in-Some-Put-clause-turn : goal.returns-in-Some-Put-clause-turn
returns-in-Some-Put-clause-turn c =
    inl (record {
      kind = c.requires.plain;
      turn =
          c.put_value.ensures c.args.body.now (rw c.tag_of.ensures
          (drafted c.args.self.now c.args.body.now c.in-Some-Put.put (rw c.in-Some-Put.field-0-is at c.in-Some-Put.ensures)));
    })

pub returns-in-Some-Answered-clause-released : goal.returns-in-Some-Answered-clause-released
returns-in-Some-Answered-clause-released c =
    λ number of code. no_release c.args.self.now c.args.body.now c.one_request.ensures _ number c.in-Some-Answered.ensures of

pub returns-in-Some-Put-clause-released : goal.returns-in-Some-Put-clause-released
returns-in-Some-Put-clause-released c = λ number of code. no_release c.args.self.now c.args.body.now c.one_request.ensures _ number c.in-Some-Put.ensures of

pub returns-in-Some-Put-clause-bank : goal.returns-in-Some-Put-clause-bank
returns-in-Some-Put-clause-bank c =
    ordinary_bank c.args.self.now c.put_value.new.self c.args.body.now c.put_value.result
    (c.put_value.ensures c.args.body.now (rw c.tag_of.ensures
    (drafted c.args.self.now c.args.body.now c.in-Some-Put.put (rw c.in-Some-Put.field-0-is at c.in-Some-Put.ensures))))

pub returns-in-None-clause-turn : goal.returns-in-None-clause-turn
returns-in-None-clause-turn c = inl (record { kind = c.requires.plain; turn = c.other_turn.ensures.turn })

pub returns-in-None-clause-bank : goal.returns-in-None-clause-bank
returns-in-None-clause-bank c = ordinary_bank c.args.self.now c.other_turn.new.self c.args.body.now c.other_turn.result c.other_turn.ensures.turn
