-- Images are as long as oa_table counts them.
use Rattle.std.proofs.Common.{◌≡◌, ℕ, ◌+◌, ◌*◌, ◌≤◌, List, [], ◌∷◌, length, Ok, refl, arith, ℤ}
use Rattle.std.specs.List.{sum_by}
use Rattle.std.specs.Map.{values_of}
use Rattle.std.proofs.lemmas.List.{length-append}
use Rattle.std.proofs.lemmas.List.Sums.{sum_by-cons}
use Rattle.oa_variant.specs.declared.variant.Variant.{Variant}
use Rattle.oa_formats.specs.promise.Formats.{raw, next_by, made_where, coded, counted, only, times}
use Rattle.oa_formats.specs.promise.Lengths.{scalar_size, value_size}
use Rattle.oa_formats.specs.promise.Numbers.{u16, u32, i32, guid_format}
use Rattle.oa_formats.specs.promise.Values.{scalar_format}
use Rattle.oa_formats.specs.promise.Variants.{value}
use Rattle.oa_formats.proofs.Lengths.{all_sized, scalar_sized, value_sized}
use Rattle.oa_table.specs.declared.event.Event.{Event}
use Rattle.oa_table.specs.declared.event.Event.TheVariants.{Create, Release, Put, PutElement, Redim}
use Rattle.oa_table.specs.declared.name.CellName.{CellName}
use Rattle.oa_table.specs.promise.Events.{applied}
use Rattle.oa_table.specs.promise.Objects.{with_put}
use Rattle.oa_table.specs.promise.Places.{PlaceValue}
use Rattle.oa_table.specs.promise.Sizes.{cell_size, object_size, place_size, table_size}
use Rattle.oa_table.specs.Sizes.{size_after}
use Rattle.oa_table.specs.promise.Tables.{ObjectValue, TableValue}
use Rattle.oa_table.proofs.Sums.{object_most, put_most}
use Rattle.oa_image.specs.promise.Events.{event_image, indices_format}
use Rattle.oa_image.specs.promise.Names.{key, name, place}
use Rattle.oa_image.specs.promise.Sizes.{event_size}
use Rattle.oa_image.specs.promise.Tables.{cell, cells, object, objects, table}
use Rattle.oa_image.proofs.Lengths.{indices_len}
use Rattle.oa_image.proofs.Parts.{create_len, put_element_len, put_len, redim_len, release_len}

place_sized : (p : PlaceValue) → length (place.image p) ≡ place_size p
unfolding place place_size key counted times next_by made_where guid_format i32 u32 u16 raw
place_sized p = omega (arith, all_sized scalar_format.image scalar_size scalar_sized p.key)

cell_sized : (c : PlaceValue × Variant) → length (cell.image c) ≡ cell_size c
unfolding cell next_by
cell_sized c = omega (arith, length-append (place.image c.0) (value.image c.1), place_sized c.0, value_sized c.1)

object_sized : (o : ℕ × ObjectValue) → length (object.image o) ≡ object_size o.1
unfolding object object_size cells only counted times coded next_by made_where guid_format u32 raw
object_sized o = omega (arith, all_sized cell.image cell_size cell_sized o.1.cells)

by_values : (os : List (ℕ × ObjectValue)) → sum_by (λ o. object_size o.1) os ≡ sum_by object_size (values_of os)
by_values [] = refl
by_values (o ∷ os) = omega (arith, by_values os, sum_by-cons (λ (o : ℕ × ObjectValue). object_size o.1) o os, sum_by-cons object_size o.1 (values_of os))

pub table_sized : (t : TableValue) → length (table.image t) ≡ table_size t
unfolding table objects table_size only counted times coded next_by made_where u32 raw
table_sized t = omega (arith, all_sized object.image (λ o. object_size o.1) object_sized t.objects, by_values t.objects)

pub applied_sized : (event : Event) (old new : TableValue) → applied event old ≡ Ok new → length (table.image new) ≡ size_after event old
applied_sized event old new made = rw made (table_sized new)

name_sized : (n : CellName) → length (name.image n) ≡ 4 + place_size n.place
unfolding name next_by made_where u32 raw
name_sized n = omega (arith, place_sized n.place)

indices_sized : (index : List ℤ) → length (indices_format.image index) ≡ 2 + 4 * length index
unfolding indices_format counted times next_by made_where u16 raw
indices_sized index = omega (arith, indices_len index)

pub event_sized : (e : Event) → length (event_image e) ≡ event_size e
unfolding event_size
event_sized (Create number class) = create_len number class
event_sized (Release number) = release_len number
event_sized (Put n v) = omega (arith, put_len n v, name_sized n, value_sized v)
event_sized (PutElement n index v) = omega (arith, put_element_len n index v, name_sized n, indices_sized index, scalar_sized v)
event_sized (Redim n b) = omega (arith, redim_len n b, name_sized n)

-- a put adds no more to a table's image than its own has
pub put_adds : (n : CellName) (v : Variant) (t : TableValue) → size_after (Put n v) t ≤ table_size t + event_size (Put n v)
unfolding event_size
put_adds n v t = omega (arith, object_most n.object (with_put n.place v) t (place_size n.place + value_size v) (put_most n.place v))
