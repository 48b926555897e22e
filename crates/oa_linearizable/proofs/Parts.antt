-- Requests and replies as operations of the table.
use Rattle.std.proofs.Common.{◌≡◌, inl, inr, ℕ, Bool, true, List, [], ◌∷◌, ◌++◌, map, refl, sym, ap, ◌∙◌, subst, append_assoc}
use Rattle.oa_frame.specs.declared.ends.End.TheVariants.{Closed, Cut, TooLong, BadHex, ReadFault, WriteFault}
use Rattle.oa_group_commit.specs.promise.Groups.{Trace, Exchange, body_of, reply_of}
use Rattle.oa_record.specs.promise.Replies.{ReplyValue}
use Rattle.oa_server.specs.promise.SharedSessions.{all_frames, frames_of}
use Rattle.oa_server.specs.promise.ServerMachine as one_client
use Rattle.oa_server.specs.promise.SharedMachine.{shared_machine, ClientReply, IsSharedTurn, Shared, SharedTurnOf}
use Rattle.oa_server.specs.promise.SharedMachine.{brought_by, client_in, failed_client_reply, fault_client_reply}
use Rattle.oa_server.specs.promise.SharedMachine.{told_by, tagged_body}
use Rattle.oa_mux.specs.promise.Marks.{Flush, Of, Tagged}
use Rattle.oa_mux.specs.promise.Readers.{Body, Brought, Ends}
use Rattle.oa_history.specs.promise.Framed.{client_of, requests_in}
use Rattle.oa_linearizable.specs.Clients.{input_of, result_of}
use Rattle.oa_linearizable.specs.promise.Histories.{IsLegal, Operation}
use Rattle.oa_linearizable.specs.promise.Tables.{inputs_in, result_for, the_table}

-- ---- requests

-- a request's client, and what it brought
abbrev pub asked_by : List ℕ → ℕ × Brought
asked_by body = (client_in body, brought_by body)

brought_again : (client : ℕ) (brought : Brought) → brought_by (tagged_body client brought) ≡ brought
brought_again client (Body body) = refl
brought_again client (Ends Closed) = refl
brought_again client (Ends Cut) = refl
brought_again client (Ends TooLong) = refl
brought_again client (Ends ReadFault) = refl
brought_again client (Ends WriteFault) = refl
brought_again client (Ends (BadHex line)) = refl

pub requests_two : (front back : List (Tagged Brought)) → requests_in (front ++ back) ≡ requests_in front ++ requests_in back
requests_two [] back = refl
requests_two (Of client brought ∷ front) back = ap (λ (l : List (List ℕ)). tagged_body client brought ∷ l) (requests_two front back)
requests_two (Flush ∷ front) back = requests_two front back

pub inputs_are : (asks : List (Tagged Brought)) → inputs_in asks ≡ map asked_by (requests_in asks)
unfolding inputs_in
inputs_are [] = refl
inputs_are (Of client brought ∷ asks) =
    ap (λ (b : Brought). (client, b) ∷ inputs_in asks) (sym (brought_again client brought))
    ∙ ap (λ (l : List (ℕ × Brought)). (client, brought_by (tagged_body client brought)) ∷ l) (inputs_are asks)
inputs_are (Flush ∷ asks) = inputs_are asks

pub frames_two : (front back : List ClientReply) → all_frames (front ++ back) ≡ all_frames front ++ all_frames back
unfolding all_frames
frames_two [] back = refl
frames_two (told ∷ front) back =
    ap (λ (l : List (ℕ × List ℕ)). frames_of told ++ l) (frames_two front back) ∙ sym (append_assoc (frames_of told) (all_frames front) (all_frames back))

-- ---- operations

-- a request that was answered, one of a group in which the device failed, and one behind that
abbrev pub done_as : Exchange ClientReply → Operation Brought ClientReply
done_as asked = record { client = client_in asked.body; input = brought_by asked.body; result = asked.reply }

abbrev pub doubted_as : Exchange ClientReply → Operation Brought ClientReply
doubted_as asked = record { client = client_in asked.body; input = brought_by asked.body; result = fault_client_reply asked.body }

abbrev pub refused_as : List ℕ → Operation Brought ClientReply
refused_as body = record { client = client_in body; input = brought_by body; result = failed_client_reply body }

-- the replies to requests in doubt
abbrev pub faulted_for : Exchange ClientReply → ClientReply
faulted_for asked = fault_client_reply asked.body

pub done_inputs : (entries : List (Exchange ClientReply)) → map input_of (map done_as entries) ≡ map asked_by (map body_of entries)
done_inputs [] = refl
done_inputs (asked ∷ entries) = ap (λ (l : List (ℕ × Brought)). asked_by asked.body ∷ l) (done_inputs entries)

pub doubted_inputs : (entries : List (Exchange ClientReply)) → map input_of (map doubted_as entries) ≡ map asked_by (map body_of entries)
doubted_inputs [] = refl
doubted_inputs (asked ∷ entries) = ap (λ (l : List (ℕ × Brought)). asked_by asked.body ∷ l) (doubted_inputs entries)

pub refused_inputs : (bodies : List (List ℕ)) → map input_of (map refused_as bodies) ≡ map asked_by bodies
refused_inputs [] = refl
refused_inputs (body ∷ bodies) = ap (λ (l : List (ℕ × Brought)). asked_by body ∷ l) (refused_inputs bodies)

-- each reply is for the client whose request it is of
told_to_it : (code : List ℕ → ReplyValue) (client : ℕ) (brought : Brought) → client_of (told_by code client brought) ≡ client
told_to_it code client (Body body) = refl
told_to_it code client (Ends why) = refl

module _ (asked : Exchange ClientReply) (old new : Shared) (one : IsSharedTurn asked old new) where
  by_turn : (brought : Brought) → SharedTurnOf one.client brought asked.reply old new → client_of asked.reply ≡ one.client
  by_turn (Body body) turn = ap client_of turn.told_is
  by_turn (Ends why) turn = ap client_of turn.told_is

  of_turn : client_of asked.reply ≡ client_in asked.body
  of_turn = by_turn one.brought one.turn ∙ ap client_in (sym one.body_is)

  -- in the words of the table
  table_turn : SharedTurnOf (client_in asked.body) (brought_by asked.body) asked.reply old new
  table_turn =
      subst (λ (b : List ℕ). SharedTurnOf (client_in b) (brought_by b) asked.reply old new) (sym one.body_is)
      (subst (λ (b : Brought). SharedTurnOf one.client b asked.reply old new) (sym (brought_again one.client one.brought)) one.turn)

pub done_results : (entries : List (Exchange ClientReply)) (old new : Shared) → Trace shared_machine old entries new
    → map result_of (map done_as entries) ≡ map result_for (map reply_of entries)
done_results [] old new run = refl
done_results (asked ∷ entries) old new run =
    ap (λ (n : ℕ). (n, asked.reply) ∷ map result_of (map done_as entries)) (sym (of_turn asked old run.0 run.1))
    ∙ ap (λ (l : List (ℕ × ClientReply)). result_for asked.reply ∷ l) (done_results entries run.0 new run.2)

pub doubted_results : (entries : List (Exchange ClientReply)) → map result_of (map doubted_as entries) ≡ map result_for (map faulted_for entries)
doubted_results [] = refl
doubted_results (asked ∷ entries) =
    ap (λ (n : ℕ). (n, fault_client_reply asked.body) ∷ map result_of (map doubted_as entries))
    (sym (told_to_it one_client.fault_reply (client_in asked.body) (brought_by asked.body)))
    ∙ ap (λ (l : List (ℕ × ClientReply)). result_for (fault_client_reply asked.body) ∷ l) (doubted_results entries)

pub refused_results : (bodies : List (List ℕ)) → map result_of (map refused_as bodies) ≡ map result_for (map failed_client_reply bodies)
refused_results [] = refl
refused_results (body ∷ bodies) =
    ap (λ (n : ℕ). (n, failed_client_reply body) ∷ map result_of (map refused_as bodies))
    (sym (told_to_it one_client.failed_reply (client_in body) (brought_by body)))
    ∙ ap (λ (l : List (ℕ × ClientReply)). result_for (failed_client_reply body) ∷ l) (refused_results bodies)

-- ---- legal histories

pub legal_two : (f : Bool) (old mid new : Shared) (front back : List (Operation Brought ClientReply)) → IsLegal (the_table f) old front mid
    → IsLegal (the_table f) mid back new → IsLegal (the_table f) old (front ++ back) new
legal_two f old mid new [] back first second = subst (λ (s : Shared). IsLegal (the_table f) s back new) first second
legal_two f old mid new (one ∷ front) back first second = (first.0, first.1, legal_two f first.0 mid new front back first.2 second)

pub done_legal : (f : Bool) (old new : Shared) (entries : List (Exchange ClientReply)) → Trace shared_machine old entries new
    → IsLegal (the_table f) old (map done_as entries) new
done_legal f old new [] run = sym run
done_legal f old new (asked ∷ entries) run = (run.0, inl (table_turn asked old run.0 run.1), done_legal f run.0 new entries run.2)

-- of a group in which the device failed, and which is kept
pub kept_legal : (old new : Shared) (entries : List (Exchange ClientReply)) → Trace shared_machine old entries new
    → IsLegal (the_table true) old (map doubted_as entries) new
kept_legal old new [] run = sym run
kept_legal old new (asked ∷ entries) run =
    (run.0, inr (refl, inl (refl, inr (asked.reply, table_turn asked old run.0 run.1))), kept_legal run.0 new entries run.2)

-- and is not kept
pub lost_legal : (state : Shared) (entries : List (Exchange ClientReply)) → IsLegal (the_table true) state (map doubted_as entries) state
lost_legal state [] = refl
lost_legal state (asked ∷ entries) = (state, inr (refl, inl (refl, inl refl)), lost_legal state entries)

pub refused_legal : (state : Shared) (bodies : List (List ℕ)) → IsLegal (the_table true) state (map refused_as bodies) state
refused_legal state [] = refl
refused_legal state (body ∷ bodies) = (state, inr (refl, inr (refl, refl)), refused_legal state bodies)
