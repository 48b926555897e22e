-- Definitions for contracts and proofs, beside promise/Keys.
use Rattle.std.specs.Cmp.{IsTotalOrder}
use Rattle.std.proofs.lemmas.Cmp.{then_total, on_total, nat_cmp_total, int_cmp_total}
use Rattle.oa_bstr.specs.Text.{texts_total}
use Rattle.oa_variant.specs.Decimals.{decimals_total}
use Rattle.oa_variant.specs.promise.Scalars.{text_of}
use Rattle.oa_variant.specs.promise.Keys.{key_number, decimal_of, key_type, scalar_cmp}

pub scalars_total : IsTotalOrder scalar_cmp
scalars_total = then_total (on_total key_type nat_cmp_total)
    (then_total (on_total key_number int_cmp_total)
    (then_total (on_total text_of texts_total) (on_total decimal_of decimals_total)))
