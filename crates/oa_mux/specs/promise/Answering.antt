-- Servers of many clients. (This project's choice.)
use Rattle.std.specs.Prelude.{ℕ, List}
use Rattle.oa_mux.specs.promise.Marks.{Tagged}
use Rattle.oa_mux.specs.promise.Readers.{Brought}

-- a turn: the state before, the request, what is sent then (any number of replies, to any clients),
-- the state after
abbrev pub SharedTurn : Type 0 → Type 1
SharedTurn S = S → Tagged Brought → List (ℕ × List ℕ) → S → Type 0
