-- What is true of a table that has an image.
use Rattle.std.proofs.Common.{◌≡◌, ℕ, ◌^◌, ◌<◌, true, List, [], ◌∷◌, length, map, refl, sym, ◌∙◌}
use Rattle.std.specs.List.{AllByRecursion, flat_map}
use Rattle.std.specs.Map.{values_of}
use Rattle.std.proofs.lemmas.List.{length-map}
use Rattle.oa_variant.specs.declared.variant.Variant.{Variant}
use Rattle.oa_variant.specs.declared.variant.Variant.TheVariants as variants
use Rattle.oa_table.specs.promise.Elements.{locks_of}
use Rattle.oa_table.specs.promise.Places.{PlaceValue}
use Rattle.oa_table.specs.promise.Tables.{ObjectValue, TableValue, unlocked_cell, unlocked_entry, unlocked_table}
use Rattle.oa_formats.specs.promise.Formats.{raw, next_by, made_where, coded, counted, only, rising, times, tagged}
use Rattle.oa_formats.specs.promise.Formats.{case}
use Rattle.oa_formats.specs.promise.Arrays.{array_format}
use Rattle.oa_formats.specs.promise.Numbers.{u32, guid_format}
use Rattle.oa_formats.specs.promise.Variants.{content, value}
use Rattle.oa_formats.proofs.Conditions.{same_unlocked}
use Rattle.oa_formats.proofs.Exact.{one_value}
use Rattle.oa_image.specs.promise.Tables.{cell, cells, is_numbered, object, objects, older, place_before, table}

-- a value that has an image has no locks
pub no_locks : (v : Variant) → value.Is v → locks_of v ≡ 0
unfolding value content tagged case array_format made_where
no_locks (variants.One s) h = refl
no_locks (variants.Array a) h = h.1.1.1

pub each_value : (es : List (PlaceValue × Variant)) → AllByRecursion cell.Is es → AllByRecursion (λ v. locks_of v ≡ 0) (values_of es)
unfolding cell next_by
each_value [] h = tt
each_value (e ∷ es) h = (no_locks e.1 h.0.1, each_value es h.1)

-- what an object has that has an image
pub record ObjectParts (o : ℕ × ObjectValue) : Type 0 where
  pub number : o.0 < 2 ^ 32
  pub class : length o.1.class ≡ 16
  pub few : length o.1.cells < 2 ^ 32
  pub all : AllByRecursion cell.Is o.1.cells
  pub rises : rising place_before o.1.cells ≡ true

pub object_parts : (o : ℕ × ObjectValue) → object.Is o → ObjectParts o
unfolding object cells only counted coded made_where next_by u32 guid_format times raw
object_parts o h = record { number = h.0; class = h.1.0; few = h.1.1.0.0; all = h.1.1.0.1; rises = h.1.1.1 }

pub is_object : (o : ℕ × ObjectValue) → ObjectParts o → object.Is o
unfolding object cells only counted coded made_where next_by u32 guid_format times raw
is_object o p = (p.number, (p.class, ((p.few, p.all), p.rises)))

-- and a table
pub record TableParts (t : TableValue) : Type 0 where
  pub next : t.next < 2 ^ 32
  pub few : length t.objects < 2 ^ 32
  pub all : AllByRecursion object.Is t.objects
  pub rises : rising older t.objects ≡ true
  pub numbered : is_numbered t ≡ true

pub table_parts : (t : TableValue) → table.Is t → TableParts t
unfolding table objects only counted coded made_where next_by u32 times raw
table_parts t h = record { next = h.0.0; few = h.0.1.0.0; all = h.0.1.0.1; rises = h.0.1.1; numbered = h.1 }

pub is_table : (t : TableValue) → TableParts t → table.Is t
unfolding table objects only counted coded made_where next_by u32 times raw
is_table t p = ((p.next, ((p.few, p.all), p.rises)), p.numbered)

-- ---- images hold no locks

same_cells : (es : List (PlaceValue × Variant)) → flat_map cell.image (map unlocked_cell es) ≡ flat_map cell.image es
unfolding cell next_by
same_cells [] = refl
same_cells (e ∷ es) = rw (same_unlocked e.1, same_cells es) refl

same_count : (es : List (PlaceValue × Variant)) → cells.image (map unlocked_cell es) ≡ cells.image es
unfolding cells only counted coded made_where next_by times
same_count es = rw (length-map es unlocked_cell, same_cells es) refl

same_object : (o : ℕ × ObjectValue) → object.image (unlocked_entry o) ≡ object.image o
unfolding object made_where next_by
same_object o = rw (same_count o.1.cells) refl

same_objects : (os : List (ℕ × ObjectValue)) → flat_map object.image (map unlocked_entry os) ≡ flat_map object.image os
same_objects [] = refl
same_objects (o ∷ os) = rw (same_object o, same_objects os) refl

pub same_table : (t : TableValue) → table.image (unlocked_table t) ≡ table.image t
unfolding table objects only counted coded made_where next_by times
same_table t = rw (length-map t.objects unlocked_entry, same_objects t.objects) refl

pub one_table : (a b : TableValue) → table.Is (unlocked_table a) → table.Is (unlocked_table b) → table.image a ≡ table.image b
    → unlocked_table a ≡ unlocked_table b
one_table a b ha hb e = one_value table (unlocked_table a) (unlocked_table b) ha hb (same_table a ∙ e ∙ sym (same_table b))
