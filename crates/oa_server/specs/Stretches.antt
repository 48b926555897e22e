-- Definitions for contracts and proofs, beside promise/SharedMachine.
use Rattle.std.specs.Prelude.{◌≡◌, ℕ, List, [], ◌∷◌, ◌++◌, map}
use Rattle.oa_disk.specs.declared.disk.Disk.{Ghosts}
use Rattle.oa_store.specs.declared.store.Store.{Store}
use Rattle.oa_server.specs.promise.SharedSessions.{all_frames}
use Rattle.oa_server.specs.promise.SharedMachine.{ClientReply, Shared, tagged_body, Stretch, ServesStretch}
use Rattle.oa_mux.specs.promise.Marks.{Tagged, Of, Flush}
use Rattle.oa_mux.specs.promise.Readers.{Brought}

-- one after the other
abbrev pub ServesStretches : {D : Type 0} {g : Ghosts D} → ℕ → Store D g → Store D g → Shared → List Stretch → Shared
    → Type 0
ServesStretches size old new before [] after = (new ≡ old) × (after ≡ before)
ServesStretches {D} {g} size old new before (stretch ∷ stretches) after =
    (mid : Store D g) × (state : Shared) × ServesStretch size old mid before stretch state
    × ServesStretches size mid new state stretches after

-- the requests, divided after each *now*; those that no *now* follows are left out
unfoldable pub cut_at_now : List (List ℕ) → List (Tagged Brought) → List (List (List ℕ))
cut_at_now front [] = []
cut_at_now front (Of client brought ∷ asks) = cut_at_now (front ++ tagged_body client brought ∷ []) asks
cut_at_now front (Flush ∷ asks) = front ∷ cut_at_now [] asks

abbrev pub bodies_of : Stretch → List (List ℕ)
bodies_of stretch = stretch.bodies

unfoldable pub told_in : List Stretch → List ClientReply
told_in [] = []
told_in (stretch ∷ stretches) = stretch.told ++ told_in stretches

-- Over a store: the requests up to each *now* are a call that was served, and the frames are those of the replies of
-- these calls, in order.
pub record AnswersStretches {D : Type 0} {g : Ghosts D} (size : ℕ) (old new : Store D g) (before : Shared)
    (asks : List (Tagged Brought))
    (frames : List (ℕ × List ℕ)) (after : Shared) : Type 0 where
  pub stretches : List Stretch
  pub are : cut_at_now [] asks ≡ map bodies_of stretches
  pub told : frames ≡ all_frames (told_in stretches)
  pub serves : ServesStretches size old new before stretches after
