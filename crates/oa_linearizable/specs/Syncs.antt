-- Why a commit needs two syncs. (This project's choice of a model: `Disk` of oa_disk.)
use Rattle.std.specs.Prelude.{◌≡◌, ℕ, List}
use Rattle.oa_disk.specs.Disk.{Reaches}
use Rattle.oa_disk.specs.promise.Disk.{Torn}
use Rattle.oa_disk.specs.declared.disk.Disk.{Ghosts}
use Rattle.oa_decision.specs.promise.States.{State}

-- A commit writes some bytes of a disk, and one sync follows. However recovery reads bytes: if some other bytes in
-- the same range mean a third state, a crash before the sync may leave that state, which is neither the one before
-- the commit nor the one after it.
abbrev pub OneSyncIsTooFew : {D : Type 0} → Ghosts D → Type 0
OneSyncIsTooFew {D} g =
    (recover : List ℕ → State) (old new : D) (at n : ℕ) (own other : List ℕ) → g.image old (g.contents old)
    → Reaches (Torn at n) (g.image old) (g.image new) → Torn at n (g.contents old) own
    → Torn at n (g.contents old) other → (recover other ≡ recover (g.contents old) → ⊥)
    → (recover other ≡ recover own → ⊥)
    → (left : List ℕ) × g.image new left × (recover left ≡ recover (g.contents old) → ⊥)
    × (recover left ≡ recover own → ⊥)
