-- Many clients in memory.
use Rattle.std.proofs.Common.{◌≡◌, inl, ℕ, false, List, [], ◌∷◌, ◌++◌, map, refl, sym, ap, ◌∙◌, subst}
use Rattle.std.proofs.lemmas.List.{append-nil}
use Rattle.oa_disk.specs.declared.disk.Disk.{Ghosts}
use Rattle.oa_server.specs.promise.SharedSessions.{all_frames, frames_of, AnswersInMemory, AsksIn, asked_written}
use Rattle.oa_server.specs.promise.SharedMachine.{ClientReply, Shared, SharedTurnOf, shared, all_told}
use Rattle.oa_server.specs.declared.desk.SharedGroup.{SharedGroup}
use Rattle.oa_server.specs.declared.engine.ServerState.{ServerState}
use Rattle.oa_server.specs.declared.storage.Storage.{Storage}
use Rattle.oa_server.specs.declared.storage.Storage.TheVariants.{Disk, Memory}
use Rattle.oa_mux.specs.promise.Marks.{Flush, Of, Tagged}
use Rattle.oa_mux.specs.promise.Readers.{Body, Brought, Ends}
use Rattle.oa_mux.specs.promise.Talking.{AllTurned}
use Rattle.oa_decision.specs.promise.States.{State}
use Rattle.oa_history.specs.promise.Framed.{client_of}
use Rattle.oa_linearizable.specs.Clients.{input_of, result_of}
use Rattle.oa_linearizable.specs.promise.Histories.{IsLegal, Operation}
use Rattle.oa_linearizable.specs.Sessions.{EachRunInMemoryIsLinearizable}
use Rattle.oa_linearizable.specs.promise.Tables.{inputs_in, result_for, the_table}
use Rattle.oa_linearizable.proofs.EachClient.{client_served}
use Rattle.oa_linearizable.proofs.Orders.{linearized}

inputs_two : (front back : List (Tagged Brought)) → inputs_in (front ++ back) ≡ inputs_in front ++ inputs_in back
unfolding inputs_in
inputs_two [] back = refl
inputs_two (Of client brought ∷ front) back = ap (λ (l : List (ℕ × Brought)). (client, brought) ∷ l) (inputs_two front back)
inputs_two (Flush ∷ front) back = inputs_two front back

-- the replies to all, in order
record Answered (before : Shared) (asks : List (Tagged Brought)) (tolds : List (List (ℕ × List ℕ))) (after : Shared) : Type 0 where
  replies : List ClientReply
  frames_are : all_told tolds ≡ all_frames replies
  order : List (Operation Brought ClientReply)
  legal : IsLegal (the_table false) before order after
  inputs_are : inputs_in asks ≡ map input_of order
  results_are : map result_of order ≡ map result_for replies

none_answered : (before after : Shared) → after ≡ before → Answered before [] [] after
unfolding all_told all_frames inputs_in
none_answered before after same = record { replies = []; frames_are = refl; order = []; legal = same; inputs_are = refl; results_are = refl }

reply_to : (client : ℕ) (brought : Brought) (told : ClientReply) (before after : Shared) → SharedTurnOf client brought told before after
    → client_of told ≡ client
reply_to client (Body body) told before after one = ap client_of one.told_is
reply_to client (Ends why) told before after one = ap client_of one.told_is

one_answered : (client : ℕ) (brought : Brought) (told : ClientReply) (frames : List (ℕ × List ℕ)) (before mid after : Shared) (asks : List (Tagged Brought))
    (tolds : List (List (ℕ × List ℕ)))
    → frames ≡ frames_of told → SharedTurnOf client brought told before mid → Answered mid asks tolds after
    → Answered before (Of client brought ∷ asks) (frames ∷ tolds) after
unfolding all_told all_frames inputs_in
one_answered client brought told frames before mid after asks tolds are turn rest = record {
  replies = told ∷ rest.replies;
  frames_are = ap (λ (l : List (ℕ × List ℕ)). l ++ all_told tolds) are ∙ ap (λ (l : List (ℕ × List ℕ)). frames_of told ++ l) rest.frames_are;
  order = record { client = client; input = brought; result = told } ∷ rest.order;
  legal = (mid, inl turn, rest.legal);
  inputs_are = ap (λ (l : List (ℕ × Brought)). (client, brought) ∷ l) rest.inputs_are;
  results_are = ap (λ (n : ℕ). (n, told) ∷ map result_of rest.order) (sym (reply_to client brought told before mid turn))
      ∙ ap (λ (l : List (ℕ × ClientReply)). result_for told ∷ l) rest.results_are;
}

now_answered : (frames : List (ℕ × List ℕ)) (before mid after : Shared) (asks : List (Tagged Brought)) (tolds : List (List (ℕ × List ℕ)))
    → frames ≡ [] → mid ≡ before → Answered mid asks tolds after → Answered before (Flush ∷ asks) (frames ∷ tolds) after
unfolding all_told inputs_in
now_answered frames before mid after asks tolds none same rest = record {
  replies = rest.replies;
  frames_are = ap (λ (l : List (ℕ × List ℕ)). l ++ all_told tolds) none ∙ rest.frames_are;
  order = rest.order;
  legal = subst (λ (s : Shared). IsLegal (the_table false) s rest.order after) same rest.legal;
  inputs_are = rest.inputs_are;
  results_are = rest.results_are;
}

module _ {D : Type 0} {g : Ghosts D} (disk : D) where
  at_memory : (storage : Storage D g) (before : State) (desk : SharedGroup) (ask : Tagged Brought) (frames : List (ℕ × List ℕ)) (new : Storage D g)
      (after : State) (desk' : SharedGroup)
      → storage ≡ Memory disk → AsksIn storage before desk ask frames new after desk' → (new ≡ Memory disk)
      × AnswersInMemory (shared before desk.owners) ask frames (shared after desk'.owners)
  at_memory (Memory d) before desk ask frames new after desk' is asks = (asks.0 ∙ is, asks.1)
  at_memory (Disk store) before desk ask frames new after desk' is asks = absurd (cc)

  all_answered : (old new : ServerState D g) (asks : List (Tagged Brought)) (tolds : List (List (ℕ × List ℕ))) → old.storage ≡ Memory disk
      → AllTurned asked_written old asks tolds new
      → Answered (shared old.host old.desk.owners) asks tolds (shared new.host new.desk.owners)
  all_answered old new [] [] is run = none_answered (shared old.host old.desk.owners) (shared new.host new.desk.owners)
      (ap (λ (e : ServerState D g). shared e.host e.desk.owners) run)
  all_answered old new (Of client brought ∷ asks) (told ∷ tolds) is run =
      let one = at_memory old.storage old.host old.desk (Of client brought) told run.0.storage run.0.host run.0.desk is run.1 in
      one_answered client brought one.1.0 told (shared old.host old.desk.owners) (shared run.0.host run.0.desk.owners)
      (shared new.host new.desk.owners) asks tolds one.1.1 one.1.2 (all_answered run.0 new asks tolds one.0 run.2)
  all_answered old new (Flush ∷ asks) (told ∷ tolds) is run =
      let one = at_memory old.storage old.host old.desk Flush told run.0.storage run.0.host run.0.desk is run.1 in
      now_answered told (shared old.host old.desk.owners) (shared run.0.host run.0.desk.owners) (shared new.host new.desk.owners) asks tolds one.1.0 one.1.1
      (all_answered run.0 new asks tolds one.0 run.2)
  all_answered old new [] (told ∷ tolds) is run = absurd run
  all_answered old new (Of client brought ∷ asks) [] is run = absurd run
  all_answered old new (Flush ∷ asks) [] is run = absurd run

pub in_memory : {D : Type 0} {g : Ghosts D} → EachRunInMemoryIsLinearizable g
in_memory {D} {g} disk old new asks tolds is run =
    let all = all_answered {g = g} disk old new asks tolds is run in
    record {
      replies = all.replies;
      frames_are = all.frames_are;
      order = all.order;
      legal = all.legal;
      linearized = λ waiting history comes. linearized history (inputs_in (asks ++ waiting)) (map result_for all.replies) all.order (inputs_in waiting) [] comes
          (inputs_two asks waiting ∙ ap (λ (l : List (ℕ × Brought)). l ++ inputs_in waiting) all.inputs_are)
          (all.results_are ∙ sym (append-nil (map result_for all.replies)));
      each_client = λ client. client_served client asks (all_told tolds) all.replies all.order [] []
          (all.inputs_are ∙ sym (append-nil (map input_of all.order))) (all.results_are ∙ sym (append-nil (map result_for all.replies))) all.frames_are;
    }
