use Rattle.std.proofs.Common.{◌+◌, refl, sym, ◌∙◌}
use Rattle.oa_gateway.specs.Places.{standing_of}
use Rattle.oa_gateway.proofs.Deeds.{leaves_absent, leaves_ending, leaves_over}
use Rattle.oa_gateway.proofs.place.NumberState.leave.Goals as goal

pub returns-in-Absent-clause-some : goal.returns-in-Absent-clause-some
returns-in-Absent-clause-some c = leaves_absent c.args.number c.args.out.now (standing_of c.args.self.now.presence) c.args.self.now.owed
    c.if-number-ge-GATEWAY.false (sym c.standing.ensures ∙ c.in-Absent.is)

pub returns-in-Ending-clause-some : goal.returns-in-Ending-clause-some
returns-in-Ending-clause-some c = leaves_ending c.args.number c.args.out.now (standing_of c.args.self.now.presence) c.args.self.now.owed
    (c.args.self.now.owed + 1) c.if-number-ge-GATEWAY.false (sym c.standing.ensures ∙ c.in-Ending.is) refl

pub returns-in-Over-clause-some : goal.returns-in-Over-clause-some
returns-in-Over-clause-some c = leaves_over c.args.number c.args.out.now (standing_of c.args.self.now.presence) c.args.self.now.owed
    c.if-number-ge-GATEWAY.false (sym c.standing.ensures ∙ c.in-Over.is)
