use Rattle.std.proofs.Common.{subst, sym, refl, arith}
use Rattle.oa_table.specs.Sizes.{HasKeptSize}
use Rattle.oa_table.specs.promise.Sizes.{table_size}
use Rattle.oa_table.proofs.table.Table.with_next.Goals as goal

pub invariant_of-result : goal.invariant_of-result
unfolding table_size
invariant_of-result c = subst (λ t. HasKeptSize t 8) (sym c.with_next.ensures) (record { sum = refl; small = omega arith })
