-- Definitions for contracts and proofs, beside promise/ClientLocks.
use Rattle.std.specs.Cmp.{IsTotalOrder}
use Rattle.std.proofs.lemmas.Cmp.{nat_cmp_total, on_total, then_total}
use Rattle.oa_table.specs.Places.{places_total}
use Rattle.oa_turn.specs.promise.ClientLocks.{cell_cmp}

pub cells_total : IsTotalOrder cell_cmp
cells_total =
    then_total (on_total (λ name. name.object) nat_cmp_total) (on_total (λ name. name.place) places_total)
