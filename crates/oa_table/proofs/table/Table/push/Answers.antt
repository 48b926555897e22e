use Rattle.std.proofs.Common.{arith}
use Rattle.oa_table.proofs.Ordered.{last_adds}
use Rattle.oa_table.proofs.table.Table.push.Goals as goal

pub invariant_of-self-2 : goal.invariant_of-self-2
invariant_of-self-2 c = record {
  sum =
      rw c.in_ok-push.ensures.pushed (omega (
        arith,
        last_adds c.args.number c.of_cells-object.result c.self.inside.objects,
        c.self.invariant.sum,
        c.size.ensures.value,
      ));
  small = omega (arith, c.if-size.false);
}
