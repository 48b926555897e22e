-- What is left of the image of a table that is written in pieces. (This project's choice.)
use Rattle.std.proofs.Common.{◌≡◌, ℕ, ◌+◌, ◌^◌, ◌<◌, ◌≤◌, List, [], ◌++◌, length, drop, Option, Some, None}
use Rattle.std.specs.List.{flat_map, sum_by}
use Rattle.oa_variant.specs.declared.variant.Variant.{Variant}
use Rattle.oa_variant.specs.declared.variant.Variant.TheVariants as variants
use Rattle.oa_table.specs.promise.Places.{PlaceValue}
use Rattle.oa_table.specs.promise.Tables.{ObjectValue}
use Rattle.oa_formats.specs.Elements.{array_head, element_image}
use Rattle.oa_image.specs.promise.Names.{place}
use Rattle.oa_formats.specs.promise.Numbers.{u32, guid_format}
use Rattle.oa_image.specs.promise.Tables.{cell, object}
use Rattle.oa_image.specs.declared.pieces.Part.{Part}
use Rattle.oa_image.specs.declared.pieces.Part.TheVariants.{Head, Object, Cell, Array, Element}
use Rattle.oa_image.specs.declared.pieces.Rest.{Rest}

-- the bytes of a part
abbrev pub piece_image : Part → List ℕ
piece_image (Head next count) = u32.image next ++ u32.image count
piece_image (Object number o) = u32.image number ++ (guid_format.image o.now.class ++ u32.image (length o.now.cells))
piece_image (Cell p value) = cell.image (p.now, value.now)
piece_image (Array p a) = place.image p.now ++ array_head a.now
piece_image (Element elem s) = element_image elem s.now

abbrev pub cells_left : Option (List (PlaceValue × Variant)) → List (PlaceValue × Variant)
cells_left None = []
cells_left (Some cells) = cells

-- the bytes after the current part
abbrev pub behind_part : Rest → List ℕ
behind_part rest =
    flat_map (element_image rest.elem) rest.elements.now
    ++ (flat_map cell.image (cells_left rest.cells) ++ flat_map object.image rest.objects)

-- the bytes that were not written yet
abbrev pub bytes_to_give : Rest → List ℕ
bytes_to_give rest = drop rest.given (piece_image rest.part) ++ behind_part rest

-- how many bytes there are from the start of the current part on
abbrev pub whole_of : Rest → ℕ
whole_of rest = length (piece_image rest.part) + length (behind_part rest)

pub record IsRest (rest : Rest) : Type 0 where
  pub given : rest.given ≤ length (piece_image rest.part)
  pub small : whole_of rest < 2 ^ 64

-- how many parts an array in a cell has after its first one
abbrev pub elements_of : PlaceValue × Variant → ℕ
elements_of (p, variants.One s) = 0
elements_of (p, variants.Array a) = length a.cells

abbrev pub steps_of_cell : PlaceValue × Variant → ℕ
steps_of_cell c = 1 + elements_of c

abbrev pub steps_of_object : ℕ × ObjectValue → ℕ
steps_of_object o = 1 + sum_by steps_of_cell o.1.cells

-- how many parts there are after the current one
abbrev pub steps_left : Rest → ℕ
steps_left rest =
    length rest.elements.now + (sum_by steps_of_cell (cells_left rest.cells) + sum_by steps_of_object rest.objects)

-- the current part is now a cell, or the head of the array in it
pub record BeginsCell (p : PlaceValue) (v : Variant) (old new : Rest) : Type 0 where
  pub given : new.given ≡ 0
  pub cells : new.cells ≡ old.cells
  pub objects : new.objects ≡ old.objects
  pub bytes : piece_image new.part ++ flat_map (element_image new.elem) new.elements.now ≡ cell.image (p, v)
  pub steps : length new.elements.now ≡ elements_of (p, v)

-- the part after the current one
pub record GoesOn (old new : Rest) : Type 0 where
  pub same : bytes_to_give new ≡ bytes_to_give old
  pub less : steps_left new < steps_left old
