use Rattle.std.proofs.Common.{rules, ◌≡◌, sym}
use Rattle.oa_decision.proofs.Found.{cell_found}
use Rattle.oa_decision.proofs.decider.Decider.find_cell_in.Goals as goal

pub returns-clause-cell : goal.returns-clause-cell
returns-clause-cell c =
    let call = c.args.call in
    let place : c.new.result ≡ record { interface = c.args.interface.now.guid; dispid = call.head.dispid; key = c.bound.inside.key.items } = search rules in
    let found = cell_found c.args.self.now call c.args.access c.args.interface.now c.in_ok-member.member c.in_ok-member.form c.in_ok-bound.bound c.requires
    (search rules) (rw c.bound_as-kind.ensures at c.in_ok-bound.ensures.call) in
    rw place (rw (sym c.member.view_is, sym c.bound.view_is) at found)
