-- What is true of each of a list, and of values without locks.
use Rattle.std.proofs.Common.{◌≡◌, ℤ, List, [], ◌∷◌, refl, sym, subst}
use Rattle.std.specs.Prelude.{All, FitsSigned}
use Rattle.std.specs.Int.{w32}
use Rattle.std.specs.List.{AllByRecursion}
use Rattle.std.proofs.lemmas.List.Elements.{All-head, All-tail}
use Rattle.oa_variant.specs.Scalars.{IsScalar}
use Rattle.oa_variant.specs.Variants.{IsVariant}
use Rattle.oa_variant.specs.promise.Variants.{unlocked}
use Rattle.oa_variant.specs.declared.scalar.Scalar.{Scalar}
use Rattle.oa_variant.specs.declared.variant.Variant.{Variant}
use Rattle.oa_variant.specs.declared.variant.Variant.TheVariants as variants
use Rattle.oa_table.specs.promise.Elements.{locks_of}
use Rattle.oa_formats.specs.promise.Formats.{made_where}
use Rattle.oa_formats.specs.promise.Numbers.{i32}
use Rattle.oa_formats.specs.promise.Values.{scalar_format}
use Rattle.oa_formats.specs.promise.Variants.{value}
use Rattle.oa_formats.proofs.Conditions.{scalar_is, value_is}

pub each_scalar : (xs : List Scalar) → All IsScalar xs → AllByRecursion scalar_format.Is xs
each_scalar [] h = tt
each_scalar (x ∷ xs) h = (scalar_is x (All-head IsScalar x xs h), each_scalar xs (All-tail IsScalar x xs h))

pub each_number : (xs : List ℤ) → All (FitsSigned w32) xs → AllByRecursion i32.Is xs
unfolding i32 made_where
each_number [] h = tt
each_number (x ∷ xs) h = (All-head (FitsSigned w32) x xs h, each_number xs (All-tail (FitsSigned w32) x xs h))

same_value : (v : Variant) → locks_of v ≡ 0 → unlocked v ≡ v
same_value (variants.One s) e = refl
same_value (variants.Array a) e = λ i. variants.Array (record { elem = a.elem; bounds = a.bounds; cells = a.cells; locks = sym e i })

pub is_value : (v : Variant) → locks_of v ≡ 0 → IsVariant v → value.Is v
is_value v e h = subst value.Is (same_value v e) (value_is v h)
