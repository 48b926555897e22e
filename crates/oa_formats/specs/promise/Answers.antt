-- The results of readers.
use Rattle.std.specs.Prelude.{◌≡◌, ℕ, List}
use Rattle.std.specs.List.{AllByRecursion, flat_map}
use Rattle.oa_formats.specs.promise.Formats.{Format}

-- the images of the values, one after the other, are the bytes
pub record IsRow {C : Type 0} (F : Format C) (bytes : List ℕ) (xs : List C) : Type 0 where
  pub are : AllByRecursion F.Is xs
  pub whole : bytes ≡ flat_map F.image xs
