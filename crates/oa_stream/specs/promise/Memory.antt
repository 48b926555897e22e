-- Readers and writers in memory. (This project's choice.)
use Rattle.std.specs.Prelude.{◌+◌, ◌-◌, true, [], Some, vec_capacity, vec_len}
use Rattle.oa_stream.specs.declared.gathered.VecSink.{VecSink}
use Rattle.oa_stream.specs.promise.Sink.{Output}

-- the bytes of the vector have left; it promises to accept those that fit into its capacity
abbrev pub gathered_output : VecSink → Output
gathered_output g = record {
  reached = Some g.bytes.items;
  kept = [];
  flushed = true;
  back = 0;
  room = vec_capacity g.bytes - vec_len g.bytes + 1;
  broken = g.broken;
}
