-- A value without its locks has none.
use Rattle.std.proofs.Common.{◌≡◌, refl}
use Rattle.oa_variant.specs.declared.variant.Variant.{Variant}
use Rattle.oa_variant.specs.declared.variant.Variant.TheVariants.{One, Array}
use Rattle.oa_variant.specs.promise.Variants.{unlocked}
use Rattle.oa_table.specs.promise.Elements.{locks_of}

pub no_locks : (value : Variant) → locks_of (unlocked value) ≡ 0
no_locks (One s) = refl
no_locks (Array a) = refl
