-- What one of many clients receives.
use Rattle.std.proofs.Common.{◌≡◌, ◌==◌, ℕ, Bool, true, false, if◌then◌else◌, List, [], ◌∷◌, ◌++◌, map, refl, sym, ap, ◌∙◌}
use Rattle.oa_frame.specs.promise.Sessions.{last_reply}
use Rattle.oa_record.specs.promise.Replies.{reply_record}
use Rattle.oa_server.specs.promise.SharedSessions.{all_frames, frames_of, frames_with}
use Rattle.oa_server.specs.promise.ServerMachine.{last_written}
use Rattle.oa_server.specs.promise.SharedMachine.{ClientReply, Leaves, Replies}
use Rattle.oa_mux.specs.promise.Marks.{Flush, Of, Tagged}
use Rattle.oa_mux.specs.Marks.{own}
use Rattle.oa_mux.specs.promise.Readers.{Brought}
use Rattle.oa_history.specs.promise.Framed.{client_of}
use Rattle.oa_linearizable.specs.Clients.{ClientIsServed, bytes_told, frame_bytes, input_of, result_of}
use Rattle.oa_linearizable.specs.promise.Histories.{Operation, of_client}
use Rattle.oa_linearizable.specs.promise.Tables.{inputs_in, result_for}
use Rattle.oa_linearizable.proofs.Orders.{of_both, of_first}

-- its own requests
own_inputs : (client : ℕ) (asks : List (Tagged Brought)) → own client asks ≡ of_client client (inputs_in asks)
unfolding own of_client inputs_in
own_inputs client [] = refl
own_inputs client (Of other brought ∷ asks) = by (other == client) (own_inputs client asks)
  where
    by : (b : Bool) → own client asks ≡ of_client client (inputs_in asks)
        → (if b then brought ∷ own client asks else own client asks)
        ≡ (if b then brought ∷ of_client client (inputs_in asks) else of_client client (inputs_in asks))
    by true rest = ap (λ (l : List Brought). brought ∷ l) rest
    by false rest = rest
own_inputs client (Flush ∷ asks) = own_inputs client asks

-- its own frames
frames_with_own : (client other : ℕ) (all : List (List ℕ)) → of_client client (frames_with other all) ≡ (if other == client then all else [])
unfolding of_client
frames_with_own client other [] = by (other == client)
  where
    by : (b : Bool) → of_client client (frames_with other []) ≡ (if b then [] else [])
    by true = refl
    by false = refl
frames_with_own client other (bytes ∷ all) = by (other == client) (frames_with_own client other all)
  where
    by : (b : Bool) → of_client client (frames_with other all) ≡ (if b then all else [])
        → (if b then bytes ∷ of_client client (frames_with other all) else of_client client (frames_with other all)) ≡ (if b then bytes ∷ all else [])
    by true rest = ap (λ (l : List (List ℕ)). bytes ∷ l) rest
    by false rest = rest

bytes_with : (client : ℕ) (all : List (List ℕ)) → map frame_bytes (frames_with client all) ≡ all
bytes_with client [] = refl
bytes_with client (bytes ∷ all) = ap (λ (l : List (List ℕ)). bytes ∷ l) (bytes_with client all)

-- all frames of a reply are for one client
reply_frames : (reply : ClientReply) → (all : List (List ℕ)) × (frames_of reply ≡ frames_with (client_of reply) all)
reply_frames (Replies client reply) = (reply_record reply ∷ [], refl)
reply_frames (Leaves client why) = (last_reply last_written why ++ [] ∷ [], refl)

reply_heard : (client : ℕ) (reply : ClientReply)
    → of_client client (frames_of reply) ≡ (if client_of reply == client then map frame_bytes (frames_of reply) else [])
reply_heard client reply =
    let is = reply_frames reply in
    ap (of_client client) is.1 ∙ frames_with_own client (client_of reply) is.0
    ∙ ap (λ (l : List (List ℕ)). if client_of reply == client then l else []) (sym (ap (map frame_bytes) is.1 ∙ bytes_with (client_of reply) is.0))

frames_heard : (client : ℕ) (replies : List ClientReply) → of_client client (all_frames replies) ≡ bytes_told (of_client client (map result_for replies))
unfolding of_client all_frames bytes_told
frames_heard client [] = refl
frames_heard client (reply ∷ replies) =
    of_both client (frames_of reply) (all_frames replies)
    ∙ ap (λ (l : List (List ℕ)). l ++ of_client client (all_frames replies)) (reply_heard client reply)
    ∙ by (client_of reply == client) (frames_heard client replies)
  where
    by : (b : Bool) → of_client client (all_frames replies) ≡ bytes_told (of_client client (map result_for replies))
        → (if b then map frame_bytes (frames_of reply) else []) ++ of_client client (all_frames replies) ≡ bytes_told
        (if b then reply ∷ of_client client (map result_for replies) else of_client client (map result_for replies))
    by true rest = ap (λ (l : List (List ℕ)). map frame_bytes (frames_of reply) ++ l) rest
    by false rest = rest

pub client_served : (client : ℕ) (asks : List (Tagged Brought)) (frames : List (ℕ × List ℕ)) (replies : List ClientReply)
    (order : List (Operation Brought ClientReply)) (more : List (ℕ × Brought)) (unheard : List (ℕ × ClientReply))
    → inputs_in asks ≡ map input_of order ++ more → map result_of order ≡ map result_for replies ++ unheard → frames ≡ all_frames replies
    → ClientIsServed client asks frames order
client_served client asks frames replies order more unheard asked told are =
    let requests = of_first client (map input_of order) (inputs_in asks) (more, asked) in
    record {
      requests = (requests.0, own_inputs client asks ∙ requests.1);
      replies = of_client client (map result_for replies);
      results = of_first client (map result_for replies) (map result_of order) (unheard, told);
      heard = ap (of_client client) are ∙ frames_heard client replies;
    }
