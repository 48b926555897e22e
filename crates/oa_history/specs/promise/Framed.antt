-- A session of many clients over streams in memory, and the calls that it is.
use Rattle.std.proofs.Common.{◌≡◌, ⊎_elim, ℕ, ◌+◌, List, [], ◌∷◌, ◌++◌, length}
use Rattle.oa_disk.specs.declared.disk.Disk.{Ghosts}
use Rattle.oa_record.specs.promise.Replacement.{is_replacement}
use Rattle.oa_stream.specs.promise.Memory.{gathered_output}
use Rattle.oa_stream.specs.promise.Sink.{Output}
use Rattle.oa_stream.specs.promise.Source.{Input as Read, in_memory}
use Rattle.oa_stream.specs.declared.gathered.VecSink.{VecSink}
use Rattle.oa_server.specs.promise.SharedSessions.{all_frames, IsSharedSession, asked_written}
use Rattle.oa_server.specs.promise.SharedMachine.{ClientReply, Leaves, Replies, Shared, shared, tagged_body}
use Rattle.oa_server.specs.promise.SharedMachine.{ServesStretch}
use Rattle.oa_server.specs.promise.Storages.{disk_of}
use Rattle.oa_server.specs.declared.engine.ServerState.{ServerState}
use Rattle.oa_server.specs.declared.server.Server.{Server}
use Rattle.oa_server.specs.declared.storage.Storage.{Storage}
use Rattle.oa_server.specs.declared.storage.Storage.TheVariants.{Disk, Memory}
use Rattle.oa_mux.specs.promise.Marks.{Flush, Of, Tagged}
use Rattle.oa_mux.specs.promise.Readers.{Brought}
use Rattle.oa_mux.specs.promise.Shared.{starting}
use Rattle.oa_mux.specs.promise.Talking.{AllTurned, ServesClients, ends_at, parted}
use Rattle.oa_mux.specs.declared.session_end.SessionEnd.{SessionEnd}
use Rattle.oa_history.specs.promise.DurablePrefixes.{CompletedCall}
use Rattle.oa_history.specs.declared.session.SharedInput.{SharedInput}
use Rattle.oa_history.specs.declared.session.WrittenFrames.{WrittenFrames}

-- ---- the turns of a session as calls

-- Requests of many clients are answered over a store, in groups of a size.
abbrev pub ServesShared : {D : Type 0} {g : Ghosts D} → ℕ → Storage D g → Storage D g → Shared → List (List ℕ)
    → List ClientReply → Shared → Type 0
ServesShared size (Disk old) (Disk new) before bodies replies after =
    ServesStretch size old new before (record { bodies = bodies; told = replies }) after
ServesShared size (Disk old) (Memory new) before bodies replies after = ⊥
ServesShared size (Memory old) new before bodies replies after = ⊥

-- the client of a reply
abbrev pub client_of : ClientReply → ℕ
client_of (Replies client reply) = client
client_of (Leaves client why) = client

-- the requests of some turns, in the one order of all clients: a body, or the end of a client, with its client's
-- number; a *now* is none
abbrev pub requests_in : List (Tagged Brought) → List (List ℕ)
requests_in [] = []
requests_in (Of client brought ∷ asks) = tagged_body client brought ∷ requests_in asks
requests_in (Flush ∷ asks) = requests_in asks

-- these frames are sent at the last of some turns, and none before
abbrev pub at_last_turn : List (Tagged Brought) → List (ℕ × List ℕ) → List (List (ℕ × List ℕ))
at_last_turn [] frames = []
at_last_turn (ask ∷ []) frames = frames ∷ []
at_last_turn (ask ∷ (next ∷ asks)) frames = [] ∷ at_last_turn (next ∷ asks) frames

-- the points in time of the disk's clock at which these turns ended
abbrev pub ends_of_turns : {D : Type 0} {g : Ghosts D} (old new : ServerState D g) (asks : List (Tagged Brought))
    (tolds : List (List (ℕ × List ℕ)))
    → AllTurned asked_written old asks tolds new → List ℕ
ends_of_turns old new [] tolds run = []
ends_of_turns old new (ask ∷ asks) [] run = []
ends_of_turns {g = g} old new (ask ∷ asks) (told ∷ tolds) run =
    g.moment (disk_of run.0.storage) ∷ ends_of_turns run.0 new asks tolds run.2

-- These turns, which ended at these points in time, are these calls, in groups of a size: each call has the requests
-- of the next turns, and ends when the last of these does. The frames that are sent then are those of its replies.
abbrev pub AreTurnsOf : ℕ → List (CompletedCall ClientReply) → List (Tagged Brought) → List (List (ℕ × List ℕ)) → List ℕ
    → Type 0
AreTurnsOf size [] asks tolds ends = (asks ≡ []) × (tolds ≡ []) × (ends ≡ [])
AreTurnsOf size (one ∷ calls) asks tolds ends =
    (own : List (Tagged Brought)) × (later : List (Tagged Brought)) × (others : List (List (ℕ × List ℕ)))
    × (before : List ℕ) × (after : List ℕ)
    × (one.call.size ≡ size)
    × (one.call.bodies ≡ requests_in own) × (asks ≡ own ++ later)
    × (tolds ≡ at_last_turn own (all_frames one.call.replies) ++ others)
    × (ends ≡ before ++ one.moment ∷ after) × (length own ≡ length before + 1)
    × AreTurnsOf size calls later others after

-- ---- a session

-- all turns that were made: the requests, then ends of clients, and a last *now*
abbrev pub turns_asked : {D : Type 0} {g : Ghosts D} {input input' : Read} {out out' : Output}
    {old new : ServerState D g} {why : SessionEnd}
    → ServesClients is_replacement asked_written starting input input' out out' old new why → List (Tagged Brought)
turns_asked {why = why} is =
    parted is_replacement is.asked
    ++ (⊎_elim (λ all. ends_at why is.streams.clients) (λ fails. fails.ends) is.done ++ Flush ∷ [])

-- the frames that were sent at each
abbrev pub turns_told : {D : Type 0} {g : Ghosts D} {input input' : Read} {out out' : Output}
    {old new : ServerState D g} {why : SessionEnd}
    → ServesClients is_replacement asked_written starting input input' out out' old new why → List (List (ℕ × List ℕ))
turns_told is = ⊎_elim (λ all. all.told.tolds) (λ fails. fails.loses.given ++ fails.loses.unheard) is.done

-- and when each ended
abbrev pub turns_ended : {D : Type 0} {g : Ghosts D} {input input' : Read} {out out' : Output}
    {old new : ServerState D g} {why : SessionEnd}
    → ServesClients is_replacement asked_written starting input input' out out' old new why → List ℕ
turns_ended {old = old} {new = new} {why = why} is = ⊎_elim
    (λ all. ends_of_turns old new (parted is_replacement is.asked ++ (ends_at why is.streams.clients ++ Flush ∷ []))
    all.told.tolds all.told.run)
    (λ fails. ends_of_turns old new (parted is_replacement is.asked ++ (fails.ends ++ Flush ∷ []))
    (fails.loses.given ++ fails.loses.unheard) fails.loses.run)
    is.done

-- A server received this input of many clients, none of which has a lock, and an empty writer. What was read,
-- answered and written is as `serve_shared` states: the requests of the clients' streams, in one order, and the
-- frames of the replies. These are the calls; and the state at the last turn, when the clients that had not ended
-- still have their locks.
pub record HasWrittenFrames {D : Type 0} {g : Ghosts D} (input : SharedInput) (written : WrittenFrames)
    (old : Server D g)
    (done : List (CompletedCall ClientReply)) (last : Storage D g) (end : Shared) : Type 0 where
  pub empty : VecSink
  pub nothing : empty.bytes.items ≡ []
  pub unread : Read
  pub new : Server D g
  pub served : IsSharedSession (in_memory input.bytes.items) unread (gathered_output empty)
      (gathered_output written.output) input.group
      old.engine new.engine written.why
  pub are : AreTurnsOf input.group done (turns_asked served.serves) (turns_told served.serves)
      (turns_ended served.serves)
  pub last_is : new.engine.storage ≡ last
  pub end_is : shared served.left.host served.left.desk.owners ≡ end
