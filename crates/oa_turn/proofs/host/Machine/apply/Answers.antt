use Rattle.std.proofs.Common.{refl, subst}
use Rattle.oa_turn.specs.Changes.{MakesChange}
use Rattle.oa_decision.specs.promise.States.{State, state_of}
use Rattle.oa_turn.proofs.Changing.{made}
use Rattle.oa_turn.proofs.host.Machine.apply.Goals as goal

pub returns-clause-change : goal.returns-clause-change
returns-clause-change c =
    let inside = c.self.inside in
    let after = state_of inside.bank inside.library c.apply.new.table in
    subst (λ (old : State). MakesChange c.args.event old after c.apply.result) c.self.view_is
    (made c.args.event (state_of inside.bank inside.library inside.table) after c.apply.result c.apply.ensures.change refl)
