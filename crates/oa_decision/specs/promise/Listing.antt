-- LIST: the live objects, by rising number. (This project's choice.)
use Rattle.std.specs.Prelude.{ℕ, List, ◌++◌, length}
use Rattle.std.specs.List.{flat_map}
use Rattle.oa_record.specs.promise.Replies.{number_field, object_field}
use Rattle.oa_table.specs.promise.Tables.{ObjectValue, TableValue}

-- a number and its object
abbrev pub entry_of : ℕ × ObjectValue → List ℕ
entry_of entry = object_field entry.0 entry.1.class

-- the number of objects, and each with its coclass
abbrev pub objects_field : TableValue → List ℕ
objects_field table = number_field (length table.objects) ++ flat_map entry_of table.objects
