use Rattle.std.proofs.Common.{◌≡◌, ◌<◌, ◌≤◌, ℕ}
use Rattle.std.specs.Prelude.{slice_index}
use Rattle.oa_gateway.proofs.queue.Queue.find.Given as goal

abbrev pub invariant-places : goal.invariant-places
invariant-places l = (at : ℕ) → l.self.next ≤ at → at < l.at → slice_index l.places at ≡ l.client → ⊥
