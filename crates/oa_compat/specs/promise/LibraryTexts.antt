-- The result of reading the text of a library.
use Rattle.std.specs.Prelude.{ℕ, List}
use Rattle.std.specs.Str.{IsUtf8}
use Rattle.oa_idl.specs.promise.IsTree.{MayBeText}
use Rattle.oa_idl.specs.promise.Trees.{TreeValue}
use Rattle.oa_sema.specs.promise.IsLibrary.{IsLibrary}

-- bytes are the text of the library
abbrev pub StandsFor : List ℕ → TreeValue → Type 0
StandsFor bytes library = IsUtf8 bytes × IsLibrary bytes library

-- bytes are a text that is not too long for a library: only such are read, which allocates
abbrev pub MayBeLibrary : List ℕ → Type 0
MayBeLibrary bytes = IsUtf8 bytes × MayBeText bytes
