use Rattle.std.proofs.Common.{◌≤◌, ◌-◌, ℕ, List, length, take}
use Rattle.oa_gateway.specs.WholeRequests.{AreRequests}
use Rattle.oa_gateway.proofs.requests.find_requests.Given as goal

abbrev pub invariant-requests : goal.invariant-requests
invariant-requests l = record {
  within : l.whole ≤ length l.bytes;
  requests : (bodies : List (List ℕ)) × AreRequests (take l.whole l.bytes) bodies;
}

abbrev pub decreases-requests : goal.decreases-requests
decreases-requests l = length l.bytes - l.whole
