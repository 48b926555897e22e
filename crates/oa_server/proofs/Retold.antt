-- One session told of other states: what was read and written is the same.
use Rattle.std.proofs.Common.{Bool, List, ℕ}
use Rattle.oa_frame.specs.promise.Framings.{Frames}
use Rattle.oa_frame.specs.promise.Sessions.{EndOf, BodiesTurned, Session, TurnOf}
use Rattle.oa_frame.specs.declared.session.Served.{Served}
use Rattle.oa_stream.specs.promise.Source.{Input}
use Rattle.oa_stream.specs.promise.Sink.{Output}

module _ {S S' : Type 0} (turn : TurnOf S) (turn' : TurnOf S') (ends : EndOf S) (ends' : EndOf S') where
  abbrev pub session_as : (f : Frames) (barrier : List ℕ → Bool) (last : List ℕ) (input input' : Input) (out out' : Output) (old new : S) (old' mid' new' : S')
      (served : Served)
      → (is : Session f barrier turn ends last input input' out out' old new served) → BodiesTurned turn' old' is.bodies is.handed mid'
      → ends' mid' is.held new'
      → Session f barrier turn' ends' last input input' out out' old' new' served
  session_as f barrier last input input' out out' old new old' mid' new' served is run ended = record {
    bodies = is.bodies;
    handed = is.handed;
    held = is.held;
    mid = mid';
    stop = is.stop;
    over = is.over;
    run = run;
    ended = ended;
    count = is.count;
    read = is.read;
    can = is.can;
    calls = is.calls;
    few = is.few;
    cause = is.cause;
    sound = is.sound;
    written = is.written;
  }
