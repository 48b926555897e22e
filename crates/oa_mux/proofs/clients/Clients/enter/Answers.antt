use Rattle.std.proofs.Common.{ap, ◌∙◌}
use Rattle.oa_mux.specs.promise.Steps.{client_state}
use Rattle.oa_mux.proofs.States.{brings_as, brings_first, entered, others_stay, some_taken}
use Rattle.oa_mux.proofs.clients.Clients.enter.Goals as goal

pub returns-in-Ok-clause-brings : goal.returns-in-Ok-clause-brings
returns-in-Ok-clause-brings c =
    brings_as _ _ _ _ _ _ c.requires.absent (ap (λ l. client_state l c.args.client) c.in-Ok.ensures.entries ∙ entered c.args.client c.self.inside.clients _)
    (brings_first _ _ _ _ c.new-found.ensures (some_taken _ _ c.args.bytes.now c.in_ok-step.ensures.taken c.requires.some) c.in_ok-step.ensures.brings)

pub returns-in-Ok-clause-others : goal.returns-in-Ok-clause-others
returns-in-Ok-clause-others c = λ other apart. ap (λ l. client_state l other) c.in-Ok.ensures.entries
    ∙ others_stay c.args.client c.self.inside.clients _ other apart ∙ ap (λ l. client_state l other) c.self.view_is
