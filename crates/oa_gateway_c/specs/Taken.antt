-- The decision on a request, as a number for C. (This project's choice.)
use Rattle.std.specs.Prelude.{ℕ}
use Rattle.oa_gateway.specs.declared.turns.Taking.{Taking}
use Rattle.oa_gateway.specs.declared.turns.Taking.TheVariants.{Taken, Full, Often, Much, Lacks}

abbrev pub taking_code : Taking → ℕ
taking_code Taken = 0
taking_code Full = 1
taking_code Often = 2
taking_code Much = 3
taking_code Lacks = 4
