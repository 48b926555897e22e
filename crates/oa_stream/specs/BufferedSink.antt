-- A buffer between a caller and a writer. (This project's choice.)
use Rattle.std.specs.Prelude.{ℕ, ◌+◌, ◌-◌, ◌≤◌, List, ◌++◌, length, take}
use Rattle.std.proofs.Common.{arith, length-append, length-take}
use Rattle.oa_stream.specs.declared.behind.BufferedSink.{BufferedSink}
use Rattle.oa_stream.specs.promise.Sink.{Output}

-- a writer with these bytes kept back before it
abbrev pub with_back : Output → List ℕ → Output
with_back o back = record {
  reached = o.reached;
  kept = o.kept ++ back;
  flushed = o.flushed;
  back = o.back + 8192;
  room = o.room - length back;
  broken = o.broken;
}

-- the bytes kept back before the writer
abbrev pub kept_back : {W : Type 0} → BufferedSink W → List ℕ
kept_back b = take b.back.len b.back.bytes.items

abbrev pub buffered_output : {W : Type 0} → (W → Output) → BufferedSink W → Output
buffered_output out b = with_back (out b.writer) (kept_back b)

-- the bytes kept back, by the writer and before it
pub back_keeps : {W : Type 0} (out : W → Output) → ((w : W) → length (out w).kept ≤ (out w).back) → (b : BufferedSink W)
    → length (buffered_output out b).kept ≤ (buffered_output out b).back
back_keeps out keeps b =
    let inner = keeps b.writer in
    let within = b.back.within in
    let places = b.back.places in
    let few = length-take b.back.len b.back.bytes.items in
    rw (length-append (out b.writer).kept (kept_back b)) (omega (arith, inner, within, places, few))
