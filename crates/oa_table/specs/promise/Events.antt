-- The table after an event, or why the event does not apply. (This project's choice.)
use Rattle.std.specs.Prelude.{ℕ, ◌+◌, ◌==◌, ◌&&◌, nat_le, if◌then◌else◌, [], Option, Some, None, Result, Ok, Err}
use Rattle.std.specs.Map.{set_value, remove_entry}
use Rattle.std.specs.BTreeMap.{insert_entry, is_at}
use Rattle.std.specs.Ordering.{nat_cmp}
use Rattle.oa_model.specs.promise.Limits.{greatest_object_number}
use Rattle.oa_array.specs.declared.fault.ArrayFault.TheVariants as arrays
use Rattle.oa_table.specs.declared.event.Event.{Event}
use Rattle.oa_table.specs.declared.event.Event.TheVariants.{Create, Release, Put, PutElement, Redim}
use Rattle.oa_table.specs.declared.fault.TableFault.{TableFault}
use Rattle.oa_table.specs.declared.fault.TableFault.TheVariants.{Array, NoObject, WrongNumber}
use Rattle.oa_table.specs.promise.Elements.{with_element_put, redimensioned_value}
use Rattle.oa_table.specs.promise.Objects.{any_locked, with_change, with_put}
use Rattle.oa_table.specs.promise.Outcomes.{mapped}
use Rattle.oa_table.specs.promise.Tables.{ObjectValue, TableValue, object_at}

abbrev pub with_object : ℕ → TableValue → ObjectValue → TableValue
with_object number table object = record table { objects = set_value (is_at (nat_cmp number)) table.objects object }

abbrev pub changed_if_live : ℕ → (ObjectValue → Result ObjectValue TableFault) → TableValue
    → Option ObjectValue → Result TableValue TableFault
changed_if_live number change table None = Err NoObject
changed_if_live number change table (Some object) = mapped (with_object number table) (change object)

-- an object is changed
abbrev pub on_object : ℕ → (ObjectValue → Result ObjectValue TableFault) → TableValue → Result TableValue TableFault
on_object number change table = changed_if_live number change table (object_at number table)

-- the next number is used, unless it is above the greatest
abbrev pub created : ℕ → ObjectValue → TableValue → Result TableValue TableFault
created number object table =
    if (number == table.next) && nat_le number greatest_object_number
    then Ok (record { next = number + 1; objects = insert_entry nat_cmp table.objects number object })
    else Err WrongNumber

abbrev pub released_if_live : ℕ → TableValue → Option ObjectValue → Result TableValue TableFault
released_if_live number table None = Err NoObject
released_if_live number table (Some object) =
    if any_locked object.cells then Err (Array arrays.IsLocked)
    else Ok (record table { objects = remove_entry (is_at (nat_cmp number)) table.objects })

-- an object is removed, unless one of its arrays is locked
abbrev pub released : ℕ → TableValue → Result TableValue TableFault
released number table = released_if_live number table (object_at number table)

-- the table after an event, or why the event does not apply
abbrev pub applied : Event → TableValue → Result TableValue TableFault
applied (Create number class) table = created number (record { class = class; cells = [] }) table
applied (Release number) table = released number table
applied (Put name value) table = on_object name.object (with_put name.place value) table
applied (PutElement name index value) table =
    on_object name.object (with_change name.place (with_element_put index value)) table
applied (Redim name bound) table = on_object name.object (with_change name.place (redimensioned_value bound)) table
