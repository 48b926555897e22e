use Rattle.std.proofs.Common.{◌≡◌, false}
use Rattle.oa_stream.specs.promise.Sink.{Output, Writes}
use Rattle.std.specs.List.{flat_map}
use Rattle.oa_commands.specs.Dumps.{BreaksOff, object_lines, table_lines}
use Rattle.oa_commands.specs.declared.fault.Fault.{Fault}
use Rattle.oa_commands.proofs.dump.put_table.Given as goal

-- what is written from here on is, with what was written before, what is written from the start on; so where it is broken off
abbrev pub invariant-objects : goal.invariant-objects
invariant-objects g l = record {
  unbroken : (g.W.Sink.out l.writer).broken ≡ false;
  whole : (end : Output) → Writes (g.W.Sink.out l.writer) end (flat_map object_lines l.number-iterator)
      → Writes (g.W.Sink.out l.fn.writer) end (table_lines l.fn.table);
  off : (fault : Fault) (end : Output) → BreaksOff (g.W.Sink.out l.writer) end (flat_map object_lines l.number-iterator) fault
      → BreaksOff (g.W.Sink.out l.fn.writer) end (table_lines l.fn.table) fault;
}
