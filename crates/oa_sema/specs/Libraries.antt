-- Definitions for contracts and proofs, beside promise/Libraries.
use Rattle.std.specs.Prelude.{ℕ, List, map}
use Rattle.oa_model.specs.promise.Folding.{folded_name}
use Rattle.oa_idl.specs.declared.items.Item.{Item}
use Rattle.oa_sema.specs.promise.Libraries.{item_name}

-- The items' names, with A to Z folded to lower case.
abbrev pub folded_names : List Item → List (List ℕ)
folded_names items = map (λ i. folded_name (item_name i)) items
