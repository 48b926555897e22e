use Rattle.std.proofs.Common.{arith, length-drop}
use Rattle.oa_image.specs.Reader.{table_taken}
use Rattle.oa_image.proofs.Taken.{all_behind, further}
use Rattle.oa_image.proofs.reader.take_parts.Goals as goal

pub parts-preserved : goal.parts-preserved
parts-preserved c =
    let old = c.parts.invariant.so_far in
    let more = rw (all_behind c.args.bytes.now c.parts.taken) at c.in_ok-len.ensures.takes.takes in
    record {
      so_far = record {
        within = omega (arith, old.within, more.within, length-drop c.parts.taken c.args.bytes.now);
        taken = further (table_taken c.args.table.now) (table_taken c.parts.table) (table_taken c.take_part.new.table) c.args.bytes.now c.parts.taken
            c.in_ok-len.len old.taken more.taken;
      };
      between = c.in_ok-len.ensures.between;
    }
