-- Definitions for contracts and proofs, beside promise/Limits.
use Rattle.std.specs.Prelude.{◌≡◌, ◌+◌, ℕ, Option, Some, None, Result, Ok, Err, IsOk}
use Rattle.oa_image.specs.promise.Sizes.{event_size}
use Rattle.oa_table.specs.declared.event.Event.{Event}
use Rattle.oa_table.specs.declared.event.Event.TheVariants as events
use Rattle.oa_table.specs.promise.Events.{applied}
use Rattle.oa_table.specs.Sizes.{size_after}
use Rattle.oa_table.specs.promise.Sizes.{table_size}
use Rattle.oa_table.specs.promise.Tables.{TableValue}
use Rattle.oa_decision.specs.promise.Limits.{within_limits}

-- the table after the event, if it applies, is within them
abbrev pub StaysWithin : ℕ → Event → TableValue → Type 0
StaysWithin bank event old = (new : TableValue) → applied event old ≡ Ok new → within_limits bank event new ≡ Ok new

-- An upper bound of the length of the table's image after an event, which for a put does not depend on the value that
-- it replaces: it adds at most its own image.
abbrev pub most_after : Event → TableValue → ℕ
most_after (events.Create number class) table = size_after (events.Create number class) table
most_after (events.Release number) table = size_after (events.Release number) table
most_after (events.Put name value) table = table_size table + event_size (events.Put name value)
most_after (events.PutElement name index value) table = size_after (events.PutElement name index value) table
most_after (events.Redim name bound) table = size_after (events.Redim name bound) table

-- the reason of a refusal, or none if there is no refusal
abbrev pub GivesReason : {T E : Type 0} → Result T E → Option E → Type 0
GivesReason due None = IsOk due
GivesReason due (Some fault) = due ≡ Err fault
