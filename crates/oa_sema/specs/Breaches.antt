-- Definitions for contracts and proofs, beside promise/Breaches.
use Rattle.std.specs.Prelude.{◌≡◌, ℕ, if◌then◌else◌, List, Option, Some, None, Result, Ok, Err}
use Rattle.std.specs.List.{list_any}
use Rattle.oa_model.specs.promise.Folding.{folded_name}
use Rattle.oa_idl.specs.declared.items.Item.{Item}
use Rattle.oa_sema.specs.promise.Libraries.{same, item_name}
use Rattle.oa_sema.specs.declared.fault.CheckError.{CheckError}
use Rattle.oa_sema.specs.declared.fault.CheckError.TheVariants.{DuplicateName, DuplicateId, DuplicateGuid}
use Rattle.oa_sema.specs.declared.fault.CheckError.TheVariants.{UnknownInterface, GetPutDisagree, ArrayParameter}
use Rattle.oa_sema.specs.declared.fault.CheckError.TheVariants.{BadDefault, TextTooLong, Memory}
use Rattle.oa_sema.specs.promise.Breaches.{inner_breach}

-- ---- names

-- As `item_breach`, given the folded names of the items before.
abbrev pub repeated_in : List (List ℕ) → Item → Option (List ℕ)
repeated_in seen item = if list_any (same (folded_name (item_name item))) seen then Some (item_name item)
    else inner_breach item

-- ---- the kinds in their order

-- The statement, unless the error is `Memory`.
abbrev pub UnlessMemory : CheckError → Type 0 → Type 0
UnlessMemory Memory P = Unit {0}
UnlessMemory (DuplicateName n) P = P
UnlessMemory (DuplicateId n) P = P
UnlessMemory (DuplicateGuid g) P = P
UnlessMemory (UnknownInterface n) P = P
UnlessMemory (GetPutDisagree n) P = P
UnlessMemory (ArrayParameter n) P = P
UnlessMemory (BadDefault n) P = P
UnlessMemory TextTooLong P = P

-- The result of a check is right: `Ok` with a right value only if there is no error, otherwise the first error or
-- `Memory`.
abbrev pub RefusesBreach : {X : Type 0} → Option CheckError → (X → Type 0) → Result X CheckError → Type 0
RefusesBreach breach P (Ok x) = (breach ≡ None) × P x
RefusesBreach breach P (Err e) = UnlessMemory e (breach ≡ Some e)
