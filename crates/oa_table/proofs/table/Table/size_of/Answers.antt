use Rattle.std.proofs.Common.{◌<◌, ◌≤◌, ◌^◌, arith, rules}
use Rattle.oa_table.specs.promise.Sizes.{object_size, table_size}
use Rattle.oa_table.proofs.Sums.{object_within}
use Rattle.oa_table.proofs.table.Table.size_of.Goals as goal

pub overflow_cast-result : goal.overflow_cast-result
overflow_cast-result c =
    let within : object_size c.in-Some.object.now ≤ table_size c.self.inside.objects =
    rw (← c.in-Some.ensures) at (object_within c.self.inside.objects c.args.number) in
    let small : c.size.result < 2 ^ 64 = omega (arith, within, c.size.ensures.value, c.self.invariant.sum, c.self.invariant.small) in
    search rules
