use Rattle.std.proofs.Common.{Ok, Err, inl, refl, rules, sym, true≢false}
use Rattle.oa_decision.specs.declared.decision.Decision.TheVariants as decisions
use Rattle.oa_turn.proofs.Eventless.{eventless, relocked_eventless}
use Rattle.oa_turn.proofs.Refused.{lacks, refused_turn, relocks, told, told_why}
use Rattle.oa_turn.proofs.Releases.{changes, is_read, takes_none}
use Rattle.oa_turn.proofs.host.Machine.draft.Goals as goal

pub returns-in-Err-clause-drafts : goal.returns-in-Err-clause-drafts
returns-in-Err-clause-drafts c = (
  refused_turn c.args.self.now c.args.self.now c.args.body.now c.bare-reply.result c.in-Err.fault c.in-Err.ensures
      (rw (c.bare-reply.ensures, c.tag_of-tag.ensures, c.code.ensures, c.index.ensures) refl) refl,
  record { table = refl; library = refl },
)

pub returns-in-Ok-Change-clause-drafts : goal.returns-in-Ok-Change-clause-drafts
returns-in-Ok-Change-clause-drafts c = (
  record {
    request = c.in-Ok.request;
    asked = c.in-Ok.ensures;
    tag = c.tag_of-tag.ensures;
    decided_is = rw c.in-Ok-Change.field-0-is at c.in-Ok-Change.ensures.decided;
  },
  rw c.in-Ok-Change.field-0-is at c.in-Ok-Change.ensures.unlocked,
  refl,
)

pub returns-in-Ok-Answer-clause-drafts : goal.returns-in-Ok-Answer-clause-drafts
returns-in-Ok-Answer-clause-drafts c = (
  told c.args.self.now c.args.body.now c.in-Ok.request c.in-Ok.ensures c.new.result c.in-Ok-Answer.code c.in-Ok-Answer.fields
      (rw c.in-Ok-Answer.field-0-is at c.in-Ok-Answer.ensures.decided)
      (rw (c.new.ensures, c.tag_of-tag.ensures, c.into_vec.ensures.value) refl),
  record { table = refl; library = refl },
)

pub returns-in-Err-Refused-clause-drafts : goal.returns-in-Err-Refused-clause-drafts
returns-in-Err-Refused-clause-drafts c = (
  told_why c.args.self.now c.args.body.now c.in-Ok.request c.in-Ok.ensures c.refuse.result c.in-Err-Refused.refusal
      (rw c.in-Err-Refused.field-0-is at c.in-Err-Refused.ensures.decided)
      (rw (c.refuse.ensures, c.tag_of-tag.ensures) refl),
  record { table = refl; library = refl },
)

pub returns-in-Err-OutOfMemory-clause-drafts : goal.returns-in-Err-OutOfMemory-clause-drafts
returns-in-Err-OutOfMemory-clause-drafts c = (
  lacks c.args.self.now c.args.body.now c.in-Ok.request c.in-Ok.ensures c.bare.result
      (inl (rw c.in-Err-OutOfMemory.field-0-is at c.in-Err-OutOfMemory.ensures.decided))
      (rw (c.bare.ensures, c.tag_of-tag.ensures) refl),
  record { table = refl; library = refl },
)

pub returns-in-Ok-Relock-clause-drafts : goal.returns-in-Ok-Relock-clause-drafts
returns-in-Ok-Relock-clause-drafts c = (
  relocks c.args.self.now c.args.body.now c.in-Ok.request c.in-Ok.ensures c.relock.result c.relock.new.self c.in-Ok-Relock.change c.in-Ok-Relock.fields
      (rw c.in-Ok-Relock.field-0-is at c.in-Ok-Relock.ensures.decided) (rw c.tag_of-tag.ensures at c.relock.ensures.reply) c.relock.ensures.state,
  c.relock.ensures.same,
)

pub returns-in-Ok-Answer-clause-quiet : goal.returns-in-Ok-Answer-clause-quiet
returns-in-Ok-Answer-clause-quiet c =
    eventless c.args.self.now c.args.body.now c.one_request.ensures c.in-Ok.request c.in-Ok.ensures
    (Ok (decisions.Answer c.in-Ok-Answer.code c.in-Ok-Answer.fields)) c.new.result (rw c.in-Ok-Answer.field-0-is at c.in-Ok-Answer.ensures.decided) refl

pub returns-in-Ok-Relock-clause-quiet : goal.returns-in-Ok-Relock-clause-quiet
returns-in-Ok-Relock-clause-quiet c =
    relocked_eventless c.args.self.now c.args.body.now c.one_request.ensures c.in-Ok.request c.in-Ok.ensures c.in-Ok-Relock.change c.in-Ok-Relock.fields
    c.relock.result (rw c.in-Ok-Relock.field-0-is at c.in-Ok-Relock.ensures.decided)

pub returns-in-Err-Refused-clause-quiet : goal.returns-in-Err-Refused-clause-quiet
returns-in-Err-Refused-clause-quiet c =
    eventless c.args.self.now c.args.body.now c.one_request.ensures c.in-Ok.request c.in-Ok.ensures (Err c.in-Err-Refused.refusal) c.refuse.result
    (rw c.in-Err-Refused.field-0-is at c.in-Err-Refused.ensures.decided) refl

pub returns-in-Err-clause-released : goal.returns-in-Err-clause-released
returns-in-Err-clause-released c = λ number of code. is_read c.args.body.now number of c.opcode_stands.ensures c.in-Err.fault c.in-Err.ensures
    (search (rules, code))

pub returns-in-Ok-Answer-clause-released : goal.returns-in-Ok-Answer-clause-released
returns-in-Ok-Answer-clause-released c =
    λ number of code. true≢false (sym (changes c.args.body.now number of c.one_request.ensures c.args.self.now c.in-Ok.request c.in-Ok.ensures _
    (rw c.in-Ok-Answer.field-0-is at c.in-Ok-Answer.ensures.decided)))

pub returns-in-Ok-Relock-clause-released : goal.returns-in-Ok-Relock-clause-released
returns-in-Ok-Relock-clause-released c =
    λ number of code. true≢false (sym (changes c.args.body.now number of c.one_request.ensures c.args.self.now c.in-Ok.request c.in-Ok.ensures _
    (rw c.in-Ok-Relock.field-0-is at c.in-Ok-Relock.ensures.decided)))

pub returns-in-Err-Refused-clause-released : goal.returns-in-Err-Refused-clause-released
returns-in-Err-Refused-clause-released c =
    λ number of code. true≢false (sym (changes c.args.body.now number of c.one_request.ensures c.args.self.now c.in-Ok.request c.in-Ok.ensures _
    (rw c.in-Err-Refused.field-0-is at c.in-Err-Refused.ensures.decided)))

pub returns-in-Err-OutOfMemory-clause-released : goal.returns-in-Err-OutOfMemory-clause-released
returns-in-Err-OutOfMemory-clause-released c = λ number of code. takes_none c.args.body.now number of c.one_request.ensures c.args.self.now c.in-Ok.request
    c.in-Ok.ensures (rw c.in-Err-OutOfMemory.field-0-is at c.in-Err-OutOfMemory.ensures.decided)
