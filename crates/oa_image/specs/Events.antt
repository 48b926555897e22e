-- Definitions for contracts and proofs, beside promise/Events.
use Rattle.std.specs.Prelude.{⊤}
use Rattle.oa_image.specs.promise.Events.{create, release, put, put_element, redim, of_kind, event}

-- ---- what a proof opens of all events

unfoldable pub events : ⊤
unfolding create release put put_element redim of_kind event
events = tt
