use Rattle.std.proofs.Common.{◌≡◌, ◌<◌, ◌≤◌, ℕ, get_or}
use Rattle.oa_gateway.specs.Places.{place_number, restarted}
use Rattle.oa_gateway.specs.declared.place.NumberState.{NumberState}
use Rattle.oa_gateway.proofs.hearing.restart.Given as goal

abbrev pub invariant-loop-at : goal.invariant-loop-at
invariant-loop-at l = record {
  done : (k : ℕ) (d : NumberState) → k < l.at → place_number (get_or l.places k d) ≡ restarted (place_number (get_or l.initial.places k d));
  others : (k : ℕ) (d : NumberState) → l.at ≤ k → get_or l.places k d ≡ get_or l.initial.places k d;
}
