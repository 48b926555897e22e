-- The values of tables in memory.
use Rattle.std.proofs.Common.{◌≡◌, ℕ, ◌<◌, ◌≤◌, ◌^◌, true, List, [], ◌∷◌, ◌++◌, length, map, ◌∙◌, arith}
use Rattle.std.specs.List.{AllByRecursion, flat_map}
use Rattle.std.specs.List.Sorted.{IsStrictlySortedBy}
use Rattle.std.specs.Map.{keys_of}
use Rattle.std.specs.Ordering.{nat_cmp}
use Rattle.std.proofs.lemmas.List.{length-append, length-map}
use Rattle.oa_variant.specs.declared.variant.Variant.{Variant}
use Rattle.oa_variant.specs.promise.Variants.{unlocked}
use Rattle.oa_table.specs.promise.Places.{PlaceValue, place_cmp}
use Rattle.oa_table.specs.promise.Tables.{ObjectValue, TableValue, unlocked_cell, unlocked_entry, unlocked_object}
use Rattle.oa_table.specs.promise.Tables.{unlocked_table}
use Rattle.oa_formats.specs.promise.Formats.{raw, next_by, made_where, coded, counted, only, times}
use Rattle.oa_formats.specs.promise.Numbers.{u32, i32, guid_format}
use Rattle.oa_formats.specs.promise.Variants.{value}
use Rattle.oa_image.specs.promise.Names.{key, place}
use Rattle.oa_image.specs.promise.Tables.{cell, cells, is_numbered, object, objects, table}
use Rattle.oa_image.proofs.Rising.{rises}
use Rattle.oa_image.proofs.Numbered.{unlocked_numbers}

-- there are as many images as values, and none is empty
as_many : {C : Type 0} (image : C → List ℕ) → ((c : C) → 0 < length (image c)) → (xs : List C) → length xs ≤ length (flat_map image xs)
as_many image some [] = omega arith
as_many image some (x ∷ xs) = omega (arith, some x, as_many image some xs, length-append (image x) (flat_map image xs))

place_bytes : (p : PlaceValue) → 0 < length (place.image p)
unfolding place next_by made_where i32 u32 raw
place_bytes p =
    omega (arith, length-append (guid_format.image p.interface) (i32.image p.dispid ++ key.image p.key), length-append (i32.image p.dispid) (key.image p.key))

pub cell_bytes : (c : PlaceValue × Variant) → 0 < length (cell.image c)
unfolding cell next_by
cell_bytes c = omega (arith, place_bytes c.0, length-append (place.image c.0) (value.image c.1))

object_bytes : (o : ℕ × ObjectValue) → 0 < length (object.image o)
unfolding object next_by made_where u32 raw
object_bytes o = omega (arith, length-append (u32.image o.0) (guid_format.image o.1.class ++ cells.image o.1.cells))

few_cells : (number : ℕ) (o : ObjectValue) → length (object.image (number, o)) < 2 ^ 32 → length o.cells < 2 ^ 32
unfolding object cells only counted coded made_where next_by times
few_cells number o small =
    let all = flat_map cell.image o.cells in
    let count = u32.image (length o.cells) in
    omega (
      arith,
      small,
      length-append (u32.image number) (guid_format.image o.class ++ (count ++ all)),
      length-append (guid_format.image o.class) (count ++ all),
      length-append count all,
      as_many cell.image cell_bytes o.cells,
    )

-- the images of a table's objects, one behind the other
pub few_objects : (t : TableValue) → length (table.image t) < 2 ^ 32 → length (flat_map object.image t.objects) < 2 ^ 32
unfolding table objects only counted coded made_where next_by times
few_objects t small =
    let all = flat_map object.image t.objects in
    let count = u32.image (length t.objects) in
    omega (arith, small, length-append (u32.image t.next) (count ++ all), length-append count all)

pub is_object : (number : ℕ) (o : ObjectValue) → number < 2 ^ 32 → length o.class ≡ 16 → IsStrictlySortedBy place_cmp (keys_of o.cells)
    → AllByRecursion cell.Is (map unlocked_cell o.cells) → length (object.image (number, o)) < 2 ^ 32
    → object.Is (unlocked_entry (number, o))
unfolding object cells only counted coded made_where next_by u32 guid_format times
is_object number o low class sorted all small =
    let few = few_cells number o small in
    (low, (class, ((omega (arith, few, length-map o.cells unlocked_cell), all), rises place_cmp unlocked o.cells sorted)))

pub is_table : (t : TableValue) → is_numbered t ≡ true → IsStrictlySortedBy nat_cmp (keys_of t.objects)
    → AllByRecursion object.Is (map unlocked_entry t.objects)
    → t.next < 2 ^ 32 → length (table.image t) < 2 ^ 32 → table.Is (unlocked_table t)
unfolding table objects only counted coded made_where next_by u32 times
is_table t numbered sorted all low small =
    let few = few_objects t small in (
      (
        low,
        (
          (omega (arith, few, length-map t.objects unlocked_entry, as_many object.image object_bytes t.objects), all),
          rises nat_cmp unlocked_object t.objects sorted,
        ),
      ),
      unlocked_numbers t ∙ numbered,
    )
