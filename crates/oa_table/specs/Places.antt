-- Definitions for contracts and proofs, beside promise/Places.
use Rattle.std.specs.Prelude.{◌≡◌, ◌≤◌, length}
use Rattle.std.specs.Cmp.{IsTotalOrder}
use Rattle.std.proofs.lemmas.Cmp.{then_total, on_total, int_cmp_total, nat_list_cmp_total, lists_total}
use Rattle.oa_model.specs.Limits.{max_key_scalars}
use Rattle.oa_variant.specs.Keys.{scalars_total}
use Rattle.oa_table.specs.promise.Places.{PlaceValue, place_cmp}

-- what is true of every place
pub record IsPlace (place : PlaceValue) : Type 0 where
  pub guid : length place.interface ≡ 16
  pub few : length place.key ≤ max_key_scalars

pub places_total : IsTotalOrder place_cmp
places_total =
    then_total (on_total (λ place. place.interface) nat_list_cmp_total)
    (then_total (on_total (λ place. place.dispid) int_cmp_total)
    (on_total (λ place. place.key) (lists_total scalars_total)))
