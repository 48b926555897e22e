-- Whose requests are in a batch, as a number for C. (This project's choice.)
use Rattle.std.specs.Prelude.{ℕ}
use Rattle.oa_gateway.specs.declared.exclusive.Whose.{Whose}
use Rattle.oa_gateway.specs.declared.exclusive.Whose.TheVariants.{Nobody, Holder, NextHolder, Shared}

abbrev pub whose_code : Whose → ℕ
whose_code Nobody = 0
whose_code Holder = 1
whose_code NextHolder = 2
whose_code Shared = 3
