-- The events that preserve that a table fits its library.
use Rattle.std.specs.Prelude.{Bool, true, is_some, Option, Some, None}
use Rattle.oa_idl.specs.promise.Trees.{TreeValue}
use Rattle.oa_table.specs.declared.event.Event.{Event}
use Rattle.oa_table.specs.declared.event.Event.TheVariants.{Create, Release, Put, PutElement, Redim}
use Rattle.oa_table.specs.promise.Places.{PlaceValue}
use Rattle.oa_table.specs.promise.Tables.{ObjectValue, TableValue, object_at}
use Rattle.oa_sema.specs.promise.Libraries.{class_of}
use Rattle.oa_variant.specs.declared.variant.Variant.{Variant}
use Rattle.oa_compat.specs.promise.Fits.{cell_fits}

-- if there is no such object, the event does not apply
abbrev pub put_fits : TreeValue → PlaceValue → Variant → Option ObjectValue → Bool
put_fits library place value None = true
put_fits library place value (Some object) = cell_fits library object.class (place, value)

-- an object of a coclass of the library, or a fitting value for a cell of its object; elements and bounds change no
-- type
abbrev pub brings_fitting : TreeValue → TableValue → Event → Bool
brings_fitting library table (Create number class) = is_some (class_of library class)
brings_fitting library table (Release number) = true
brings_fitting library table (Put name value) = put_fits library name.place value (object_at name.object table)
brings_fitting library table (PutElement name index value) = true
brings_fitting library table (Redim name bound) = true
