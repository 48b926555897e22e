-- Writers of the standard library. (This project's choice.)
use Rattle.std.specs.Prelude.{◌≡◌, ℕ, ◌+◌, ◌<◌, ◌≤◌, Bool, true, false, List, [], length, take, Option}
use Rattle.std.specs.Io.KnownBytes.{Appends, Keeps}
use Rattle.oa_stream.specs.declared.outlet.StdSink.{StdSink}
use Rattle.oa_stream.specs.declared.outlet.Taken.{Taken}
use Rattle.oa_stream.specs.declared.outlet.Taken.TheVariants.{Bytes, Again, Fault}
use Rattle.oa_stream.specs.promise.Sink.{Output}

-- what the inner writer holds by the standard library has left; no space is promised
abbrev pub outlet : {W : Type 0} → (W → Option (List ℕ)) → StdSink W → Output
outlet contents o =
    record { reached = contents o.writer; kept = []; flushed = o.flushed; back = 0; room = 0; broken = o.broken }

-- how many calls in a row may be interrupted
abbrev pub most_tries : ℕ
most_tries = 4194304

-- An interrupted call is counted, and a failed one is remembered.
abbrev pub Tried : Taken → ℕ → ℕ → Bool → Type 0
Tried (Bytes n) old new failed = new ≡ old
Tried Again old new failed = new ≡ old + 1
Tried Fault old new failed = (failed ≡ true) × (new ≡ old)

-- one write call
abbrev pub Took : Taken → Option (List ℕ) → Option (List ℕ) → Bool → List ℕ → Type 0
Took (Bytes n) old new broken bytes = (0 < n) × (n ≤ length bytes) × Appends old new (take n bytes) × (broken ≡ false)
Took Again old new broken bytes = Keeps old new × (broken ≡ false)
Took Fault old new broken bytes = Keeps old new × (broken ≡ true)

-- one flush
abbrev pub Flushes : Taken → Option (List ℕ) → Option (List ℕ) → Bool → Bool → Type 0
Flushes (Bytes n) old new flushed broken = Keeps old new × (flushed ≡ true) × (broken ≡ false)
Flushes Again old new flushed broken = Keeps old new × (broken ≡ false)
Flushes Fault old new flushed broken = Keeps old new × (broken ≡ true)
