use Rattle.std.proofs.Common.{ap, subst, sym, ◌∙◌}
use Rattle.std.specs.List.Sorted.{IsStrictlySortedBy}
use Rattle.std.specs.Map.{keys_of}
use Rattle.std.specs.Ordering.{nat_cmp}
use Rattle.oa_mux.specs.promise.Steps.{client_state}
use Rattle.oa_mux.proofs.States.{absent_ends, ends_as, gone, others_left}
use Rattle.oa_mux.proofs.clients.Clients.end.Goals as goal
use Rattle.oa_mux.proofs.clients.Clients.end.Goals.{in-Some, in-None}

pub returns-clause-brings : goal.returns-clause-brings
returns-clause-brings c =
    let found = ap (λ l. client_state l c.args.client) (sym c.self.view_is) ∙ sym c.remove.ensures.value in
    let left = ap (λ l. client_state l c.args.client) c.remove.ensures.entries
    ∙ gone c.args.client c.self.inside.clients (subst (λ l. IsStrictlySortedBy nat_cmp (keys_of l)) (sym c.self.view_is) c.numbers_rise.ensures) in
    elim c.match-remove.branch [
      | in-Some w ↦ ends_as _ _ _ _ _ _ w.result-is (found ∙ w.in-Some.is) left w.end.ensures
      | in-None w ↦ ends_as _ _ _ _ _ _ w.result-is (found ∙ w.in-None.is) left absent_ends
    ]

pub returns-clause-others : goal.returns-clause-others
returns-clause-others c = λ other apart. ap (λ l. client_state l other) c.remove.ensures.entries ∙ others_left c.args.client c.self.inside.clients other apart
    ∙ ap (λ l. client_state l other) c.self.view_is
