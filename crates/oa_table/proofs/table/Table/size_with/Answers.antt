use Rattle.std.proofs.Common.{arith, ap}
use Rattle.oa_table.specs.promise.Sizes.{table_size}
use Rattle.oa_table.proofs.Sums.{create_due, object_within}
use Rattle.oa_table.proofs.table.Table.size_with.Goals as goal

pub overflow_sub-result : goal.overflow_sub-result
overflow_sub-result c = omega (arith, object_within c.args.self.now c.args.number, c.size_of.ensures, c.self.invariant.sum, ap table_size c.self.view_is)

pub returns : goal.returns
returns c =
    λ class. omega (
      arith,
      create_due c.args.number class c.args.self.now c.numbers_rise.ensures (omega (arith, c.next.ensures, c.if-number-next.false))
          (omega (arith, c.if-number-gt-GREATEST_OBJECT_NUMBER.false)),
      c.size_of.ensures,
      c.self.invariant.sum,
      ap table_size c.self.view_is,
    )
