-- The limits of texts, which are this project's choice.
use Rattle.std.specs.Prelude.{ℕ}
use Rattle.oa_idl.specs.declared.stop.Limit.{Limit}
use Rattle.oa_idl.specs.declared.stop.Limit.TheVariants as texts
use Rattle.oa_idl.specs.declared.stop.TreeLimit.{TreeLimit}
use Rattle.oa_idl.specs.declared.stop.TreeLimit.TheVariants as limits
use Rattle.oa_idl.specs.declared.stop.Stop.{Stop}
use Rattle.oa_idl.specs.declared.stop.Stop.TheVariants as stops
use Rattle.oa_idl.specs.declared.stop.ParseError.{ParseError}
use Rattle.oa_idl.specs.declared.stop.ParseError.TheVariants as errors

-- The limit of a text that is this limit of a tree.
abbrev pub limit_of : TreeLimit → Limit
limit_of limits.Name = texts.Name
limit_of limits.Interfaces = texts.Interfaces
limit_of limits.Coclasses = texts.Coclasses
limit_of limits.Members = texts.Members
limit_of limits.Params = texts.Params

-- The error of a text whose parsing stopped at the word that begins at `place`.
abbrev pub error_of : ℕ → Stop → ParseError
error_of place stops.Syntax = errors.Syntax place
error_of place (stops.Limit l) = errors.Limit (limit_of l)
error_of place stops.Memory = errors.Memory
