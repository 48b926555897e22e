-- The trees of libraries.
use Rattle.std.specs.Prelude.{ℕ, List}
use Rattle.oa_idl.specs.promise.Trees.{TreeValue}
use Rattle.oa_sema.specs.promise.IsLibrary.{IsLibrary}

-- The tree is that of a library: it is parsed from some text, passes all checks, and one default interface is marked in
-- each coclass.
abbrev pub IsChecked : TreeValue → Type 0
IsChecked tree = (text : List ℕ) × IsLibrary text tree
