-- Definitions for contracts and proofs, beside promise/Decimals.
use Rattle.std.specs.Cmp.{IsTotalOrder, bool_cmp_total}
use Rattle.std.proofs.lemmas.Cmp.{then_total, on_total, nat_cmp_total}
use Rattle.oa_variant.specs.promise.Decimals.{decimal_cmp}

pub decimals_total : IsTotalOrder decimal_cmp
decimals_total = then_total (on_total (λ d. d.negative) bool_cmp_total)
    (then_total (on_total (λ d. d.scale) nat_cmp_total) (on_total (λ d. d.magnitude) nat_cmp_total))
