-- Which changes may fail as out of memory. (This project's choice.)
use Rattle.std.specs.Prelude.{◌≡◌, ◌<◌, None, ⊤, ◌⊎◌}
use Rattle.oa_table.specs.declared.event.Event.{Event}
use Rattle.oa_table.specs.declared.event.Event.TheVariants.{Create, Release, Put, PutElement, Redim}
use Rattle.oa_table.specs.Sizes.{largest_image, size_after}
use Rattle.oa_table.specs.promise.Tables.{TableValue, cell_in, object_at}

-- Memory is allocated for an object, for a cell that was never put, and for an array with other bounds. No memory
-- holds a table whose image is longer than the longest one; a release makes no image longer.
abbrev pub MayWantMemory : Event → TableValue → Type 0
MayWantMemory (Create number class) table = ⊤
MayWantMemory (Release number) table = ⊥
MayWantMemory (Put name value) table =
    (cell_in name.place (object_at name.object table) ≡ None) ⊎ (largest_image < size_after (Put name value) table)
MayWantMemory (PutElement name index value) table = largest_image < size_after (PutElement name index value) table
MayWantMemory (Redim name bound) table = ⊤
