-- The image of a put of a long into a member without arguments, byte by byte.
use Rattle.std.proofs.Common.{◌≡◌, ℕ, ℤ, ◌+◌, ◌≤◌, List, [], ◌∷◌, ◌++◌, length, take, drop, slice_index_or, refl, sym}
use Rattle.std.specs.Int.{w32, to_le_bytes, cast_unsigned}
use Rattle.oa_model.specs.promise.Guids.{wire_order}
use Rattle.oa_formats.specs.Formats.{combinators}
use Rattle.oa_formats.specs.Numbers.{numbers}
use Rattle.oa_formats.specs.Values.{scalar_parts}
use Rattle.oa_formats.specs.promise.Values.{of_type}
use Rattle.oa_formats.specs.Variants.{contents}
use Rattle.oa_table.specs.declared.name.CellName.{CellName}
use Rattle.oa_table.specs.declared.event.Event.{Event}
use Rattle.oa_table.specs.declared.event.Event.TheVariants.{Put}
use Rattle.oa_variant.specs.declared.scalar.Scalar.TheVariants.{I4}
use Rattle.oa_variant.specs.declared.variant.Variant.TheVariants.{One}
use Rattle.oa_image.specs.Names.{names}
use Rattle.oa_image.specs.Events.{events}
use Rattle.oa_image.specs.promise.Events.{event_image}

-- the bytes of these parts
abbrev pub laid : (object guid dispid number : List ℕ) → List ℕ
laid o g d n =
    3 ∷ slice_index_or o 0 0 ∷ slice_index_or o 1 0 ∷ slice_index_or o 2 0 ∷ slice_index_or o 3 0
    ∷ slice_index_or g 0 0 ∷ slice_index_or g 1 0 ∷ slice_index_or g 2 0 ∷ slice_index_or g 3 0 ∷ slice_index_or g 4 0 ∷ slice_index_or g 5 0
    ∷ slice_index_or g 6 0 ∷ slice_index_or g 7 0 ∷ slice_index_or g 8 0 ∷ slice_index_or g 9 0 ∷ slice_index_or g 10 0 ∷ slice_index_or g 11 0
    ∷ slice_index_or g 12 0 ∷ slice_index_or g 13 0 ∷ slice_index_or g 14 0 ∷ slice_index_or g 15 0
    ∷ slice_index_or d 0 0 ∷ slice_index_or d 1 0 ∷ slice_index_or d 2 0 ∷ slice_index_or d 3 0
    ∷ 0 ∷ 0 ∷ 3 ∷ 0 ∷ slice_index_or n 0 0 ∷ slice_index_or n 1 0 ∷ slice_index_or n 2 0 ∷ slice_index_or n 3 0 ∷ []

pub is_laid : (n : CellName) (z : ℤ) (object guid dispid number : List ℕ) → n.place.key ≡ [] → object ≡ to_le_bytes w32 n.object
    → guid ≡ wire_order n.place.interface
    → dispid ≡ to_le_bytes w32 (cast_unsigned w32 n.place.dispid) → number ≡ to_le_bytes w32 (cast_unsigned w32 z)
    → laid object guid dispid number ≡ event_image (Put n (One (I4 z)))
unfolding combinators numbers scalar_parts of_type contents names events
is_laid n z object guid dispid number bare o g d v = rw (o, g, d, v, bare) refl

-- bytes that are an event's image, put in from a place on
pub has_room : (event other : Event) (bytes out : List ℕ) (start : ℕ) → event ≡ other → bytes ≡ event_image other
    → start + length (event_image event) ≤ length out
    → start + length bytes ≤ length out
has_room event other bytes out start same is room = rw (is, sym same) room

pub is_put : (event other : Event) (bytes before after : List ℕ) (start : ℕ) → event ≡ other → bytes ≡ event_image other
    → after ≡ take start before ++ (bytes ++ drop (start + length bytes) before)
    → after ≡ take start before ++ (event_image event ++ drop (start + length (event_image event)) before)
is_put event other bytes before after start same is put = rw (same, sym is) put
