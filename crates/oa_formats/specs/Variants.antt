-- Definitions for contracts and proofs, beside promise/Variants.
use Rattle.std.specs.Prelude.{⊤}
use Rattle.oa_formats.specs.promise.Variants.{kind, content, value}

-- ---- what a proof opens of a value and its number

unfoldable pub contents : ⊤
unfolding kind content value
contents = tt
