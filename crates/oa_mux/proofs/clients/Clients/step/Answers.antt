use Rattle.std.proofs.Common.{ap, sym, ◌∙◌, Some}
use Rattle.std.proofs.lemmas.Result.{IfOk-weaker, on_err_weaker}
use Rattle.oa_mux.specs.promise.Steps.{client_state}
use Rattle.oa_mux.proofs.States.{brings_as, changed, others_unchanged}
use Rattle.oa_mux.proofs.clients.Clients.step.Goals as goal

pub returns-clause-brings : goal.returns-clause-brings
returns-clause-brings c =
    let found = ap (λ l. client_state l c.args.client) (sym c.self.view_is) ∙ sym c.in-Some.ensures.value in
    let left = ap (λ l. client_state l c.args.client) (c.get_mut.follows.holds c.advance.new.self)
    ∙ changed c.args.client c.self.inside.clients c.in-Some.found.now c.advance.new.self c.in-Some.ensures.value in
    IfOk-weaker c.advance.result _ _ (λ s b. brings_as _ _ _ _ _ _ found left b) c.advance.ensures.brings

pub returns-clause-others : goal.returns-clause-others
returns-clause-others c = λ other apart. ap (λ l. client_state l other) (c.get_mut.follows.holds c.advance.new.self)
    ∙ others_unchanged c.args.client c.self.inside.clients _ other apart ∙ ap (λ l. client_state l other) c.self.view_is

pub returns-clause-err : goal.returns-clause-err
returns-clause-err c =
    let found = ap (λ l. client_state l c.args.client) (sym c.self.view_is) ∙ sym c.in-Some.ensures.value in
    let left = ap (λ l. client_state l c.args.client) (c.get_mut.follows.holds c.advance.new.self)
    ∙ changed c.args.client c.self.inside.clients c.in-Some.found.now c.advance.new.self c.in-Some.ensures.value in
    on_err_weaker c.advance.result (λ same. left ∙ ap Some same ∙ sym found) c.advance.ensures.err
