-- Definitions for contracts and proofs, beside promise/Canon.
use Rattle.std.specs.Prelude.{◌≡◌, ℕ}
use Rattle.oa_variant.specs.declared.variant.Variant.{Variant}
use Rattle.oa_variant.specs.declared.variant.Variant.TheVariants.{One, Array}
use Rattle.oa_wire_variant.specs.promise.Canon.{array_len}

-- If the value is an array, its encoding has n bytes.
abbrev pub IsArrayLen : ℕ → Variant → Type 0
IsArrayLen n (One s) = Unit {0}
IsArrayLen n (Array a) = n ≡ array_len a
