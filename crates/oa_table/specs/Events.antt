-- Definitions for contracts and proofs, beside promise/Events.
use Rattle.std.specs.Prelude.{◌≡◌, ⊤}
use Rattle.oa_table.specs.declared.event.Event.{Event}
use Rattle.oa_table.specs.declared.event.Event.TheVariants.{Create, Release, Put, PutElement, Redim}
use Rattle.oa_table.specs.promise.Elements.{locks_of}

-- locks are those of a session: no event contains any
abbrev pub BringsNoLocks : Event → Type 0
BringsNoLocks (Create number class) = ⊤
BringsNoLocks (Release number) = ⊤
BringsNoLocks (Put name value) = locks_of value ≡ 0
BringsNoLocks (PutElement name index value) = ⊤
BringsNoLocks (Redim name bound) = ⊤
