-- Readers of the standard library. (This project's choice.)
use Rattle.std.specs.Prelude.{ℕ, false, List, Option}
use Rattle.oa_stream.specs.declared.inlet.StdSource.{StdSource}
use Rattle.oa_stream.specs.promise.Source.{Input}

-- what the standard library states of the inner reader, which promises nothing
abbrev pub inlet : {R : Type 0} → (R → Option (List ℕ)) → StdSource R → Input
inlet remaining i = record { left = remaining i.reader; calls = i.calls; faulted = i.faulted; steady = false }
