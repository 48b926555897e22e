-- The images of tables: the next number, and the objects by rising number, each with its cells in the order of their
-- places (this project's choice). With another order, or with a place or a number twice, bytes are no image.
use Rattle.std.proofs.Common.{ℕ, Bool, List, refl}
use Rattle.std.specs.Prelude.{nat_lt, ◌&&◌, ◌+◌, ◌≤◌, length}
use Rattle.std.specs.List.{list_all}
use Rattle.std.specs.Ordering.{nat_cmp, is_lt}
use Rattle.oa_variant.specs.declared.variant.Variant.{Variant}
use Rattle.oa_table.specs.promise.Places.{PlaceValue, place_cmp}
use Rattle.oa_table.specs.promise.Tables.{ObjectValue, TableValue}
use Rattle.oa_formats.specs.promise.Formats.{Format, ◌▸◌, made, counted, only, rising}
use Rattle.oa_formats.specs.promise.Numbers.{u32, guid_format}
use Rattle.oa_formats.specs.promise.Variants.{value}
use Rattle.oa_image.specs.promise.Names.{place}

-- a place and its value
unfoldable pub cell : Format (PlaceValue × Variant)
cell = place ▸ value

abbrev pub place_before : PlaceValue × Variant → PlaceValue × Variant → Bool
place_before a b = is_lt (place_cmp a.0 b.0)

unfoldable pub cells : Format (List (PlaceValue × Variant))
cells = only (rising place_before) (counted u32 cell)

-- its number, its coclass, its cells
unfoldable pub object : Format (ℕ × ObjectValue)
object =
    made (λ p. (p.0, record { class = p.1.0; cells = p.1.1 })) (λ o. (o.0, (o.1.class, o.1.cells)))
    (u32 ▸ guid_format ▸ cells)
    (λ p. refl)
    (λ o. refl)

abbrev pub older : ℕ × ObjectValue → ℕ × ObjectValue → Bool
older a b = is_lt (nat_cmp a.0 b.0)

unfoldable pub objects : Format (List (ℕ × ObjectValue))
objects = only (rising older) (counted u32 object)

-- the number of each object is from 1 to below the next one
abbrev pub is_used : ℕ → ℕ × ObjectValue → Bool
is_used next o = nat_lt 0 o.0 && nat_lt o.0 next

abbrev pub is_numbered : TableValue → Bool
is_numbered t = nat_lt 0 t.next && list_all (is_used t.next) t.objects

unfoldable pub table : Format TableValue
table =
    only is_numbered
    (made (λ p. record { next = p.0; objects = p.1 }) (λ t. (t.next, t.objects)) (u32 ▸ objects) (λ p. refl)
    (λ t. refl))

-- the bytes of a table; they contain no locks
abbrev pub table_image : TableValue → List ℕ
table_image = table.image

-- How many bytes of a bank's body the image of a table must leave free: enough for the longest text of a library and
-- the largest group.
abbrev pub reserved_bytes : ℕ
reserved_bytes = 5242880

-- the image of the table leaves this many bytes of a bank's body of this size free
abbrev pub FitsBank : ℕ → TableValue → Type 0
FitsBank bank table = length (table_image table) + reserved_bytes ≤ bank
