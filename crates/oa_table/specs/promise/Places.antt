-- The places of cells in an object, and their order. (This project's choice.)
use Rattle.std.specs.Prelude.{ℕ, ℤ, List}
use Rattle.std.specs.Ordering.{nat_cmp, int_cmp, on, then_cmp}
use Rattle.std.specs.Cmp.Lexicographic.{slice_cmp}
use Rattle.std.specs.declared.cmp.Ordering.{Ordering}
use Rattle.oa_variant.specs.declared.scalar.Scalar.{Scalar}
use Rattle.oa_variant.specs.promise.Keys.{scalar_cmp}

-- a member of an interface (the interface's GUID as 16 bytes in printed order), and the arguments of the call
pub record PlaceValue : Type 0 where
  pub interface : List ℕ
  pub dispid : ℤ
  pub key : List Scalar

abbrev pub key_cmp : List Scalar → List Scalar → Ordering
key_cmp = slice_cmp scalar_cmp

-- by the interface as a number of 128 bits, then by the DISPID as a signed number, then by the key as a list of scalars
abbrev pub place_cmp : PlaceValue → PlaceValue → Ordering
place_cmp =
    then_cmp (on (λ place. place.interface) (slice_cmp nat_cmp))
    (then_cmp (on (λ place. place.dispid) int_cmp) (on (λ place. place.key) key_cmp))
