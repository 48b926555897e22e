-- The table of objects, with the locks of its clients, as an object with a sequential specification. (This project's
-- choice.)
use Rattle.std.specs.Prelude.{◌≡◌, ◌⊎◌, ℕ, Bool, true, List, [], ◌∷◌}
use Rattle.oa_server.specs.promise.ServerMachine as one_client
use Rattle.oa_server.specs.promise.SharedMachine.{opened_shared, ClientReply, Shared, SharedTurnOf, told_by}
use Rattle.oa_mux.specs.promise.Marks.{Flush, Of, Tagged}
use Rattle.oa_mux.specs.promise.Readers.{Brought}
use Rattle.oa_history.specs.promise.Framed.{client_of}
use Rattle.oa_linearizable.specs.promise.Histories.{AreSeenAs, History, IsDurablyLinearizable, Object}

-- If a call of the device has failed, the reply is STG_E_WRITEFAULT, and the request was done or not; or it is
-- E_FAIL, and the request was not done. The end of a client is reported as usual.
abbrev pub FailsFor : ℕ → Brought → ClientReply → Shared → Shared → Type 0
FailsFor client brought reply old new =
    ((reply ≡ told_by one_client.fault_reply client brought)
    × ((new ≡ old) ⊎ ((other : ClientReply) × SharedTurnOf client brought other old new)))
    ⊎ ((reply ≡ told_by one_client.failed_reply client brought) × (new ≡ old))

-- An operation of a client is one of its requests, or the end of its stream. Its result is that of one turn of the
-- table; if a call of the device has failed, it may be one that reports this. A crash releases all locks.
abbrev pub the_table : Bool → Object Shared Brought ClientReply
the_table has_failed = record {
  Step = λ client brought reply old new.
      SharedTurnOf client brought reply old new ⊎ ((has_failed ≡ true) × FailsFor client brought reply old new);
  recovered = opened_shared;
}

-- the inputs of all clients, in the order in which they were read; *now* is no operation
unfoldable pub inputs_in : List (Tagged Brought) → List (ℕ × Brought)
inputs_in [] = []
inputs_in (Of client brought ∷ asks) = (client, brought) ∷ inputs_in asks
inputs_in (Flush ∷ asks) = inputs_in asks

-- the result of an operation, with its client
abbrev pub result_for : ClientReply → ℕ × ClientReply
result_for reply = (client_of reply, reply)

-- What the clients see of durably linearizable histories is durably linearizable.
abbrev pub SeenHistoriesAreLinearizable : Type 0
SeenHistoriesAreLinearizable =
    (failed : List Bool) (before : Shared) (histories seen : List (History Brought ClientReply)) (after : Shared)
    → AreSeenAs histories seen → IsDurablyLinearizable the_table before failed histories after
    → IsDurablyLinearizable the_table before failed seen after
