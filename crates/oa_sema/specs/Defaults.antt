-- Definitions for contracts and proofs, beside promise/Defaults.
use Rattle.std.specs.Prelude.{List, map, Option}
use Rattle.oa_variant.specs.declared.scalar.Scalar.{Scalar}
use Rattle.oa_sema.specs.promise.DeclarationValues.{DeclarationValue}
use Rattle.oa_sema.specs.promise.Defaults.{default_value}

-- The values of the defaults of a declaration's parameters.
abbrev pub defaults_of : DeclarationValue → List (Option Scalar)
defaults_of d = map default_value d.parameters
