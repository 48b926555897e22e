-- A call as its body contains it, with its values still encoded. (This project's choice.)
use Rattle.std.specs.Prelude.{ℤ, ℕ, List}
use Rattle.oa_model.specs.declared.bound.Bound.{Bound}
use Rattle.oa_record.specs.declared.request.CallHead.{CallHead}

-- The head of a call, the DISPIDs of its named arguments, and the bytes of its arguments' fields.
pub record CallParts : Type 0 where
  pub head : CallHead
  pub named : List ℤ
  pub fields : List (List ℕ)

-- A call that names an array, and the indices of an element.
pub record ElementParts : Type 0 where
  pub call : CallParts
  pub indices : List ℤ

-- A call that names an array, the indices of an element, and the bytes of the element's new value.
pub record PutParts : Type 0 where
  pub element : ElementParts
  pub value : List ℕ

-- A call that names an array, and its new first listed bound.
pub record RedimParts : Type 0 where
  pub call : CallParts
  pub bound : Bound
