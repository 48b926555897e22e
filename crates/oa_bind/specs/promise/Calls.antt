-- A bound call as contracts see it. (This project's choice.)
use Rattle.std.specs.Prelude.{List, Option}
use Rattle.oa_variant.specs.declared.scalar.Scalar.{Scalar}
use Rattle.oa_variant.specs.declared.variant.Variant.{Variant}

-- The values of the parameters in their order, and the new value of a put.
pub record BoundCallValue : Type 0 where
  pub key : List Scalar
  pub value : Option Variant
