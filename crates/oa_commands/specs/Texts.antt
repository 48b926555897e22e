-- The printed text of a library. (This project's choice.)
use Rattle.std.specs.Prelude.{ℕ, List}
use Rattle.oa_printer.specs.promise.Canonical.{canonical}
use Rattle.oa_sema.specs.promise.IsLibrary.{IsLibrary}
use Rattle.oa_idl.specs.promise.Trees.{TreeValue}

-- the canonical text of a library of some text was put in the given way
abbrev pub IsPrinted : (List ℕ → Type 0) → Type 0
IsPrinted Put = (text : List ℕ) × (library : TreeValue) × IsLibrary text library × Put (canonical library)
