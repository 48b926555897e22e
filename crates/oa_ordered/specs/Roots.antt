-- The entries of a map in its rows or branches.
use Rattle.std.specs.Prelude.{◌≡◌, ◌<◌, ◌^◌, ℕ, List, length}
use Rattle.std.specs.declared.cmp.Ordering.{Ordering}
use Rattle.oa_ordered.specs.declared.root.Root.{Root}
use Rattle.oa_ordered.specs.declared.root.Root.TheVariants.{One, Many}
use Rattle.oa_ordered.specs.Rows.{AreFilled, IsOrdered, concat_rows}

module _ {K X : Type 0} where
  -- the entries, and whether no branch is empty
  abbrev pub entries_of : Root K X → List (K × X)
  entries_of (One row) = row
  entries_of (Many branches) = concat_rows branches.items

  abbrev pub IsFilled : Root K X → Type 0
  IsFilled (One row) = Unit {0}
  IsFilled (Many branches) = AreFilled branches.items

  -- a map with `len` entries
  pub record IsMap (cmp : K → K → Ordering) (root : Root K X) (len : ℕ) : Type 0 where
    pub ordered : IsOrdered cmp (entries_of root)
    pub filled : IsFilled root
    pub count : len ≡ length (entries_of root)
    pub few : len < 2 ^ 63
