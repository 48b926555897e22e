-- Definitions for contracts and proofs, beside promise/Names.
use Rattle.std.specs.Prelude.{⊤}
use Rattle.oa_image.specs.promise.Names.{key, place, name}

-- ---- what a proof opens of a name and its parts

unfoldable pub names : ⊤
unfolding key place name
names = tt
