-- The lengths of the parts of an image that oa_image writes. (This project's choice.)
use Rattle.std.specs.Prelude.{◌+◌, ℕ}
use Rattle.std.specs.List.{sum_by}
use Rattle.std.specs.Map.{values_of}
use Rattle.oa_formats.specs.promise.Lengths.{scalar_size, value_size}
use Rattle.oa_variant.specs.declared.variant.Variant.{Variant}
use Rattle.oa_table.specs.promise.Places.{PlaceValue}
use Rattle.oa_table.specs.promise.Tables.{ObjectValue, TableValue}

-- the interface's GUID, the DISPID, the number of scalars in the key, and the scalars
unfoldable pub place_size : PlaceValue → ℕ
place_size place = 22 + sum_by scalar_size place.key

abbrev pub cell_size : PlaceValue × Variant → ℕ
cell_size cell = place_size cell.0 + value_size cell.1

-- the number, the coclass's GUID, the number of cells, and the cells
unfoldable pub object_size : ObjectValue → ℕ
object_size object = 24 + sum_by cell_size object.cells

-- the next number, the number of objects, and the objects
unfoldable pub table_size : TableValue → ℕ
table_size table = 8 + sum_by object_size (values_of table.objects)
