-- What clients see of a linearizable history is linearizable, by the same order.
use Rattle.std.proofs.Common.{Bool, List, [], ◌∷◌, ◌++◌, ap, ◌∙◌, append_assoc}
use Rattle.oa_server.specs.promise.SharedMachine.{opened_shared, ClientReply, Shared}
use Rattle.oa_mux.specs.promise.Readers.{Brought}
use Rattle.oa_linearizable.specs.promise.Histories.{AreSeenAs, History, IsDurablyLinearizable, IsFirstPart}
use Rattle.oa_linearizable.specs.promise.Histories.{IsLinearizedBy, IsSeenAs, Operation}
use Rattle.oa_linearizable.specs.promise.Tables.{the_table}

first_of : {X : Type 0} (xs ys zs : List X) → IsFirstPart xs ys → IsFirstPart ys zs → IsFirstPart xs zs
first_of {X = X} xs ys zs one two = (one.0 ++ two.0, two.1 ∙ ap (λ (l : List X). l ++ two.0) one.1 ∙ append_assoc xs one.0 two.0)

seen_by : (history seen : History Brought ClientReply) (order : List (Operation Brought ClientReply)) → IsSeenAs history seen → IsLinearizedBy history order
    → IsLinearizedBy seen order
seen_by history seen order is was = record {
  calls = λ client. first_of _ _ _ (was.calls client) (is.arrived client);
  results = λ client. first_of _ _ _ (is.received client) (was.results client);
  real_time = λ a i b j precedes. was.real_time a i b j (is.later a i b j precedes);
}

pub all_seen : (failed : List Bool) (before : Shared) (histories seen : List (History Brought ClientReply)) (after : Shared) → AreSeenAs histories seen
    → IsDurablyLinearizable the_table before failed histories after → IsDurablyLinearizable the_table before failed seen after
all_seen [] before [] [] after are is = is
all_seen (f ∷ failed) before [] [] after are is = absurd is
all_seen [] before (history ∷ histories) (seen ∷ others) after are is = absurd is
all_seen (f ∷ failed) before (history ∷ histories) (seen ∷ others) after are is = (
  is.0,
  record {
    order = is.1.order;
    linearized = seen_by history seen is.1.order are.0 is.1.linearized;
    legal = is.1.legal;
  },
  all_seen failed (opened_shared is.0) histories others after are.1 is.2,
)
all_seen failed before [] (seen ∷ others) after are is = absurd are
all_seen failed before (history ∷ histories) [] after are is = absurd are
