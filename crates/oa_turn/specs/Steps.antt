-- Definitions for contracts and proofs, beside promise/Steps.
use Rattle.std.specs.Prelude.{◌≡◌, None}
use Rattle.oa_turn.specs.promise.Steps.{Outcome}

-- nothing changes
abbrev pub IsQuiet : Outcome → Type 0
IsQuiet o = (o.event ≡ None) × (o.locks ≡ None)
