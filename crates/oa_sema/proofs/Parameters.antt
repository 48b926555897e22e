-- The defaults of a put's parameters without the new value.
use Rattle.std.proofs.Common.{◌≡◌, ℕ, ◌-◌, true, false, List, length, map, take, Option, ap, ◌∙◌}
use Rattle.std.proofs.lemmas.List.{length-map, take-map}
use Rattle.oa_variant.specs.declared.scalar.Scalar.{Scalar}
use Rattle.oa_sema.specs.promise.DeclarationValues.{DeclarationValue}
use Rattle.oa_sema.specs.promise.Declarations.{is_put, own_parameters}
use Rattle.oa_sema.specs.promise.Defaults.{default_value}

pub own_of : (n : ℕ) (xs : List (Option Scalar)) (d : DeclarationValue) → xs ≡ map default_value d.parameters → n ≡ length xs - 1 → is_put d.kind ≡ true
    → take n xs ≡ map default_value (own_parameters d)
own_of n xs d is at put =
    let len : n ≡ length d.parameters - 1 = at ∙ ap (λ (ys : List (Option Scalar)). length ys - 1) is
    ∙ ap (λ (m : ℕ). m - 1) (length-map d.parameters default_value) in
    rw (put, is, len) (take-map default_value (length d.parameters - 1) d.parameters)

pub all_of : (xs : List (Option Scalar)) (d : DeclarationValue) → xs ≡ map default_value d.parameters → is_put d.kind ≡ false
    → xs ≡ map default_value (own_parameters d)
all_of xs d is put = rw put is
