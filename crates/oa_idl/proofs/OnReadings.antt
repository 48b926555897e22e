-- The parts of a parser: a proof that computes one unfolds it, and its definition.
use Rattle.std.specs.Prelude.{⊤}
use Rattle.oa_idl.specs.Reading.{bind, give, choose, require, demand, perhaps_at, list_at, gather_at, gather, fail}

unfoldable pub combinators : ⊤
unfolding bind give choose require demand perhaps_at list_at gather_at
combinators = tt

-- one round of the reading of a list of attributes
unfoldable pub round : ⊤
unfolding gather fail
round = tt
