-- DECIMAL (MS-OAUT section 2.2.26), and its order in keys (this project's choice).
use Rattle.std.specs.Prelude.{◌≡◌, ℕ, ◌+◌, ◌*◌, ◌^◌, ◌/◌, ◌%◌, ◌<◌, Bool, false}
use Rattle.std.proofs.Common.{arith}
use Rattle.std.specs.Ordering.{nat_cmp, bool_cmp, on, then_cmp}
use Rattle.std.specs.declared.cmp.Ordering.{Ordering}

-- The number sign × magnitude / 10^scale. A `Decimal` of the code has a scale of at most 28 and a magnitude below 2^96.
pub record DecimalValue : Type 0 where
  pub negative : Bool
  pub scale : ℕ
  pub magnitude : ℕ

-- The bits of a magnitude above the 64 lowest (Hi32), and the 64 lowest (Lo64).
abbrev pub high_of : ℕ → ℕ
high_of magnitude = magnitude / 2 ^ 64

abbrev pub low_of : ℕ → ℕ
low_of magnitude = magnitude % 2 ^ 64

pub halves : (high low : ℕ) → low < 2 ^ 64
    → (high_of (high * 2 ^ 64 + low) ≡ high) × (low_of (high * 2 ^ 64 + low) ≡ low)
halves high low h = (omega (arith, h), omega (arith, h))

-- The positive zero of scale 0.
abbrev pub zero_decimal : DecimalValue
zero_decimal = record { negative = false; scale = 0; magnitude = 0 }

-- The order in keys, which is not that of the numbers: plus before minus, then by scale, then by magnitude.
abbrev pub decimal_cmp : DecimalValue → DecimalValue → Ordering
decimal_cmp =
    then_cmp (on (λ d. d.negative) bool_cmp) (then_cmp (on (λ d. d.scale) nat_cmp) (on (λ d. d.magnitude) nat_cmp))
