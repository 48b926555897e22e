-- A table that is made object by object. (This project's choice.)
use Rattle.std.specs.Prelude.{◌≡◌, ◌<◌, ◌≤◌, ℕ, [], ◌∷◌, ◌++◌, All}
use Rattle.std.specs.Map.{keys_of, values_of}
use Rattle.oa_table.specs.promise.Elements.{locks_of}
use Rattle.oa_table.specs.promise.Tables.{ObjectValue, TableValue}

-- the table with this next number, without objects
abbrev pub table_with_next : ℕ → TableValue
table_with_next next = record { next = next; objects = [] }

-- the table with one more object after the others
abbrev pub with_last : ℕ → ObjectValue → TableValue → TableValue
with_last number object table = record table { objects = table.objects ++ (number, object) ∷ [] }

-- The object may be the last one: its number is from 1 to below the next one and above all others, and it has no
-- locked array.
pub record CanBeLast (number : ℕ) (object : ObjectValue) (table : TableValue) : Type 0 where
  pub positive : 1 ≤ number
  pub used : number < table.next
  pub above : All (λ other. other < number) (keys_of table.objects)
  pub unlocked : All (λ value. locks_of value ≡ 0) (values_of object.cells)
