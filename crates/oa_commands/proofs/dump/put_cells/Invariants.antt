use Rattle.std.proofs.Common.{◌≡◌, false}
use Rattle.std.specs.List.{flat_map}
use Rattle.oa_stream.specs.promise.Sink.{Output, Writes}
use Rattle.oa_commands.specs.Dumps.{BreaksOff, cell_line}
use Rattle.oa_commands.specs.declared.fault.Fault.{Fault}
use Rattle.oa_commands.proofs.dump.put_cells.Given as goal

-- what is written from here on is, with what was written before, what is written from the start on; so where it is broken off
abbrev pub invariant-cells : goal.invariant-cells
invariant-cells g l = record {
  unbroken : (g.W.Sink.out l.writer).broken ≡ false;
  whole : (end : Output) → Writes (g.W.Sink.out l.writer) end (flat_map cell_line l.place-iterator)
      → Writes (g.W.Sink.out l.fn.writer) end (flat_map cell_line l.fn.object.cells);
  off : (fault : Fault) (end : Output) → BreaksOff (g.W.Sink.out l.writer) end (flat_map cell_line l.place-iterator) fault
      → BreaksOff (g.W.Sink.out l.fn.writer) end (flat_map cell_line l.fn.object.cells) fault;
}
