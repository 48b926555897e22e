use Rattle.std.proofs.Common.{◌-◌, length}
use Rattle.oa_image.specs.Reader.{ConsumesNext, IsBetweenParts, table_taken}
use Rattle.oa_image.proofs.reader.take_parts.Given as goal

-- what was taken so far
abbrev pub invariant-parts : goal.invariant-parts
invariant-parts l = record {
  so_far : ConsumesNext (table_taken l.fn.table) (table_taken l.table) l.bytes l.taken;
  between : IsBetweenParts l.table;
}

abbrev pub decreases-parts : goal.decreases-parts
decreases-parts l = length l.bytes - l.taken
