-- A session of a server in memory is one of turns.
use Rattle.std.proofs.Common.{ℕ, List, [], ◌∷◌, sym, ap, subst}
use Rattle.oa_disk.specs.declared.disk.Disk.{Ghosts}
use Rattle.oa_frame.specs.promise.Framings.{Frames}
use Rattle.oa_frame.specs.promise.Sessions as sessions
use Rattle.oa_frame.specs.declared.session.Served.{Served}
use Rattle.oa_record.specs.promise.Replacement.{is_replacement}
use Rattle.oa_stream.specs.promise.Source.{Input}
use Rattle.oa_stream.specs.promise.Sink.{Output}
use Rattle.oa_server.specs.declared.engine.ServerState.{ServerState}
use Rattle.oa_server.specs.declared.open_group.OpenGroup.{OpenGroup}
use Rattle.oa_server.specs.declared.storage.Storage.{Storage}
use Rattle.oa_server.specs.declared.storage.Storage.TheVariants.{Disk, Memory}
use Rattle.oa_server.specs.Serving.{none_held, turn_written}
use Rattle.oa_decision.specs.promise.States.{State}
use Rattle.oa_server.specs.Storages.{InMemory}
use Rattle.oa_server.specs.Talks.{InputEnds, Taken, ended_written, taken_written}
use Rattle.oa_server.proofs.Retold.{session_as}

pub record StaysInMemory {D : Type 0} {g : Ghosts D} (new : Storage D g) (before : State) (body : List ℕ) (replies : List (List ℕ))
    (after : State) : Type 0 where
  pub turn : turn_written before body replies after
  pub memory : InMemory new

module _ {D : Type 0} {g : Ghosts D} where
  in_memory : (old new : Storage D g) (before after : State) (open_group open_group' : OpenGroup) (body : List ℕ) (replies : List (List ℕ)) → InMemory old
      → Taken old before open_group body replies new after open_group'
      → StaysInMemory new before body replies after
  in_memory (Memory one) new before after open_group open_group' body replies here
      is = record { turn = is.1; memory = subst (λ (s : Storage D g). InMemory s) (sym is.0) tt }
  in_memory (Disk one) new before after open_group open_group' body replies here is = absurd here

  ended_in_memory : (old new : Storage D g) (before after : State) (open_group open_group' : OpenGroup) (replies : List (List ℕ)) → InMemory old
      → InputEnds old before open_group replies new after open_group' → none_held before replies after
  ended_in_memory (Memory one) new before after open_group open_group' replies here is = is.1
  ended_in_memory (Disk one) new before after open_group open_group' replies here is = absurd here

  pub record RunsInMemory (old new : ServerState D g) (bodies : List (List ℕ)) (handed : List (List (List ℕ))) : Type 0 where
    pub run : sessions.BodiesTurned turn_written old.host bodies handed new.host
    pub memory : InMemory new.storage

  run_in_memory : (old new : ServerState D g) (bodies : List (List ℕ)) (handed : List (List (List ℕ))) → InMemory old.storage
      → sessions.BodiesTurned taken_written old bodies handed new → RunsInMemory old new bodies handed
  run_in_memory old new [] [] here run = record {
    run = ap (λ (s : ServerState D g). s.host) run;
    memory = subst (λ (s : ServerState D g). InMemory s.storage)
        (sym run) here;
  }
  run_in_memory old new (body ∷ bodies) (replies ∷ handed) here run =
      let one = in_memory old.storage run.0.storage old.host run.0.host old.desk.open_group run.0.desk.open_group body replies here run.1 in
      let rest = run_in_memory run.0 new bodies handed one.memory run.2 in
      record { run = (run.0.host, one.turn, rest.run); memory = rest.memory }
  run_in_memory old new [] (replies ∷ handed) here run = absurd run
  run_in_memory old new (body ∷ bodies) [] here run = absurd run

  pub session_in_memory : (f : Frames) (last : List ℕ) (input input' : Input) (out out' : Output) (old new : ServerState D g) (served : Served)
      → InMemory old.storage
      → sessions.Session f is_replacement taken_written ended_written last input input' out out' old new served
      → sessions.Session f is_replacement turn_written none_held last input input' out out' old.host new.host served
  session_in_memory f last input input' out out' old new served here is =
      let runs = run_in_memory old is.mid is.bodies is.handed here is.run in
      let ended = ended_in_memory is.mid.storage new.storage is.mid.host new.host is.mid.desk.open_group new.desk.open_group is.held runs.memory is.ended in
      session_as taken_written turn_written ended_written none_held f is_replacement last input input' out out' old new old.host is.mid.host new.host served is
      runs.run ended
