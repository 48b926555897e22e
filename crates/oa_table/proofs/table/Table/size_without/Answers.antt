use Rattle.std.proofs.Common.{sym, arith, ◌∙◌, ap}
use Rattle.oa_table.specs.promise.Sizes.{table_size}
use Rattle.oa_table.proofs.Sums.{object_within, release_due}
use Rattle.oa_table.proofs.table.Table.size_without.Goals as goal

pub overflow_sub-result : goal.overflow_sub-result
overflow_sub-result c = omega (arith, object_within c.args.self.now c.args.number, c.size_of.ensures, c.self.invariant.sum, ap table_size c.self.view_is)

pub returns : goal.returns
returns c =
    omega (
      arith,
      release_due c.args.number c.args.self.now (sym c.locked.ensures ∙ c.if-locked.false),
      c.size_of.ensures,
      c.self.invariant.sum,
      ap table_size c.self.view_is,
    )
