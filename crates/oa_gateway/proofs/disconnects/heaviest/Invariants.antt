use Rattle.std.proofs.Common.{◌<◌, ◌≤◌, ℕ, length, get_or}
use Rattle.oa_gateway.proofs.disconnects.heaviest.Given as goal

abbrev pub invariant-clients : goal.invariant-clients
invariant-clients l = record {
  within : l.found < length l.unread;
  most : (k : ℕ) → k < l.at → get_or l.unread k 0 ≤ get_or l.unread l.found 0;
}
