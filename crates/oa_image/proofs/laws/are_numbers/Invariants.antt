use Rattle.std.proofs.Common.{◌≡◌, ◌<◌, slice_get, Some}
use Rattle.std.specs.Prelude.{FitsSigned}
use Rattle.std.specs.Int.{w32}
use Rattle.oa_image.proofs.laws.are_numbers.Given as goal

-- the numbers before this one
abbrev pub invariant-numbers : goal.invariant-numbers
invariant-numbers l = (k : _) (n : _) → k < l.number-index → slice_get l.fn.numbers k ≡ Some n → FitsSigned w32 n
