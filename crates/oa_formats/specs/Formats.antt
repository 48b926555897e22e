-- Definitions for contracts and proofs, beside promise/Formats.
use Rattle.std.specs.Prelude.{⊤}
use Rattle.oa_ndr.specs.promise.Reading.{bind, give, fail}
use Rattle.oa_formats.specs.promise.Formats.{raw, nothing, never, next_by, made_where, coded, times, counted, only}
use Rattle.oa_formats.specs.promise.Formats.{case, tagged}

-- ---- lists in an order

-- ---- what a proof opens to see how a format is made of others, and read
unfoldable pub combinators : ⊤
unfolding bind give fail raw nothing never next_by made_where coded times counted only case tagged
combinators = tt
