-- The parts of a session over a stream are calls, one after another.
use Rattle.std.proofs.Common.{◌≡◌, ℕ, List, [], ◌∷◌, Bor, refl, sym, ◌∙◌, ap, subst}
use Rattle.oa_disk.specs.declared.disk.Disk.{Ghosts}
use Rattle.oa_disk.specs.declared.memory.MemoryDisk.{MemoryDisk}
use Rattle.oa_frame.specs.promise.Framings.{frames}
use Rattle.oa_frame.specs.declared.framing.Framing.{Framing}
use Rattle.oa_frame.specs.declared.session.Served.{Served}
use Rattle.oa_stream.specs.BufferedSource.{ahead, read_ahead, with_front}
use Rattle.oa_stream.specs.promise.Memory.{gathered_output}
use Rattle.oa_stream.specs.promise.Source.{Input as Read, in_memory}
use Rattle.oa_stream.specs.declared.ahead.BufferedSource.{BufferedSource}
use Rattle.oa_stream.specs.declared.gathered.VecSink.{VecSink}
use Rattle.oa_decision.specs.promise.States.{State}
use Rattle.oa_record.specs.promise.Replies.{ReplyValue}
use Rattle.oa_server.specs.promise.Storages.{Serves, disk_of, InParts, Part, Parts}
use Rattle.oa_server.specs.Talks.{IsStoreSession}
use Rattle.oa_server.specs.declared.server.Server.{Server}
use Rattle.oa_server.specs.declared.storage.Storage.{Storage}
use Rattle.oa_history.specs.promise.DurablePrefixes.{CallSequence, CompletedCall, HasWritten, calls_in, stream_parts}
use Rattle.oa_history.specs.declared.session.StreamInput.{StreamInput}
use Rattle.oa_history.proofs.Calls.{made_push}

parts_made : {D : Type 0} {g : Ghosts D} (size : ℕ) (old new : Storage D g) (before after : State) (parts : List Part)
    (is : Parts size old new before parts after) → CallSequence Serves old before (stream_parts size old new before after parts is) new after
parts_made size old new before after [] is = is
parts_made size old new before after (part ∷ parts) is = (is.0, is.1, is.2.serves, refl, parts_made size is.0 new is.1 after parts is.3)

pub all_made_of : {D : Type 0} {g : Ghosts D} (size : ℕ) (old new : Storage D g) (before after : State) (bodies : List (List ℕ)) (handed : List (List (List ℕ)))
    (read_ahead : List (List ℕ)) (is : InParts size old new before after bodies handed read_ahead)
    → CallSequence Serves old before (calls_in is) new after
all_made_of {D} {g} size old new before after bodies handed read_ahead is =
    let rest : CompletedCall ReplyValue = record {
      call = record { size = size; bodies = is.open_bodies; replies = is.told };
      moment = g.moment
          (disk_of new);
    } in
    made_push Serves old before (stream_parts size old is.mid before is.state is.parts is.served) is.mid is.state rest new after
    (parts_made size old is.mid before is.state is.parts is.served) is.ends refl

-- nothing was read ahead of the bytes
pub reads_from : (bytes : Bor (List ℕ)) (reader : BufferedSource (Bor (List ℕ))) → reader.reader ≡ bytes → read_ahead reader ≡ []
    → ahead (λ (s : Bor (List ℕ)). in_memory s.now) reader ≡ in_memory bytes.now
reads_from bytes reader at none = ap (λ (l : List ℕ). with_front l (in_memory reader.reader.now)) none
    ∙ ap (λ (s : Bor (List ℕ)). with_front [] (in_memory s.now)) at

pub has_written : {g : Ghosts MemoryDisk} (input : StreamInput) (framing : Framing) (bytes : Bor (List ℕ)) (reader : BufferedSource (Bor (List ℕ)))
    (empty output : VecSink) (served : Served) (old new : Server MemoryDisk g) (unread : Read)
    → input.framing ≡ framing → bytes.now ≡ input.bytes.items → reader.reader ≡ bytes → read_ahead reader ≡ [] → empty.bytes.items ≡ []
    → IsStoreSession (frames framing) (ahead (λ (s : Bor (List ℕ)). in_memory s.now) reader) unread (gathered_output empty)
    (gathered_output output) input.group old.engine new.engine served
    → (done : List (CompletedCall ReplyValue)) × HasWritten input (record { output = output; served = served }) old.engine.storage old.engine.host done
    new.engine.storage new.engine.host
    × CallSequence Serves old.engine.storage old.engine.host done new.engine.storage new.engine.host
has_written input framing bytes reader empty output served old new unread is same at none nothing talked =
    let whole : ahead (λ (s : Bor (List ℕ)). in_memory s.now) reader ≡ in_memory input.bytes.items = reads_from bytes reader at none ∙ ap in_memory same in
    let here : IsStoreSession (frames input.framing) (in_memory input.bytes.items) unread (gathered_output empty)
    (gathered_output output) input.group old.engine new.engine served =
    subst (λ (f : Framing). IsStoreSession (frames f) (in_memory input.bytes.items) unread (gathered_output empty)
    (gathered_output output) input.group old.engine new.engine served) (sym is)
    (subst (λ (i : Read). IsStoreSession (frames framing) i unread (gathered_output empty) (gathered_output output) input.group old.engine new.engine served)
    whole talked) in (
      calls_in here.in_parts,
      record { empty = empty; nothing = nothing; unread = unread; talked = here; are = refl },
      all_made_of input.group old.engine.storage new.engine.storage old.engine.host new.engine.host here.io.bodies here.io.handed here.io.held here.in_parts,
    )
