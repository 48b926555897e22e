use Rattle.std.proofs.Common.{sym, ◌∙◌}
use Rattle.oa_gateway.specs.Places.{standing_of}
use Rattle.oa_gateway.proofs.Deeds.{closes_absent, closes_ending, closes_over}
use Rattle.oa_gateway.proofs.place.NumberState.close.Goals as goal

pub returns-in-Absent-clause-some : goal.returns-in-Absent-clause-some
returns-in-Absent-clause-some c = closes_absent c.args.number c.args.out.now (standing_of c.args.self.now.presence) c.args.self.now.owed
    c.if-number-ge-GATEWAY.false (sym c.standing.ensures ∙ c.in-Absent.is)

pub returns-in-Ending-clause-some : goal.returns-in-Ending-clause-some
returns-in-Ending-clause-some c = closes_ending c.args.number c.args.out.now (standing_of c.args.self.now.presence) c.args.self.now.owed
    c.if-number-ge-GATEWAY.false (sym c.standing.ensures ∙ c.in-Ending.is)

pub returns-in-Over-clause-some : goal.returns-in-Over-clause-some
returns-in-Over-clause-some c = closes_over c.args.number c.args.out.now (standing_of c.args.self.now.presence) c.args.self.now.owed
    c.if-number-ge-GATEWAY.false (sym c.standing.ensures ∙ c.in-Over.is)
