-- How many bytes the image of an event has. (This project's choice.)
use Rattle.std.specs.Prelude.{ℕ, ◌+◌, ◌*◌, length}
use Rattle.oa_formats.specs.promise.Lengths.{scalar_size, value_size}
use Rattle.oa_table.specs.promise.Sizes.{place_size}
use Rattle.oa_table.specs.declared.event.Event.{Event}
use Rattle.oa_table.specs.declared.event.Event.TheVariants.{Create, Release, Put, PutElement, Redim}

-- its kind, and what it has: numbers of objects and a coclass; or the name of a cell, a place with the number of its
-- object, and a value, indices and an element, or a bound
unfoldable pub event_size : Event → ℕ
event_size (Create number class) = 21
event_size (Release number) = 5
event_size (Put name value) = 5 + place_size name.place + value_size value
event_size (PutElement name index value) = 7 + place_size name.place + 4 * length index + scalar_size value
event_size (Redim name bound) = 13 + place_size name.place
