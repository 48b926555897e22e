-- The decision on a client, as a number for C. (This project's choice.)
use Rattle.std.specs.Prelude.{ℕ}
use Rattle.oa_gateway.specs.declared.disconnects.Verdict.{Verdict}
use Rattle.oa_gateway.specs.declared.disconnects.Verdict.TheVariants.{Stays, Unread, Incomplete, Idle}

abbrev pub verdict_code : Verdict → ℕ
verdict_code Stays = 0
verdict_code Unread = 1
verdict_code Incomplete = 2
verdict_code Idle = 3
