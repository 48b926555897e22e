-- The library of a text.
use Rattle.std.specs.Prelude.{◌≡◌, ℕ, List, None}
use Rattle.oa_idl.specs.promise.IsTree.{IsTree}
use Rattle.oa_idl.specs.promise.Trees.{TreeValue}
use Rattle.oa_sema.specs.promise.Breaches.{first_breach}
use Rattle.oa_sema.specs.promise.Libraries.{marked}

-- The text encodes a tree that passes all checks, and the library is this tree with one default interface marked in
-- each coclass.
pub record IsLibrary (text : List ℕ) (library : TreeValue) : Type 0 where
  pub tree : TreeValue
  pub stands : IsTree text tree
  pub unbroken : first_breach tree ≡ None
  pub says : library ≡ marked tree
