-- Decoding values one after another, if one of them fails.
use Rattle.std.proofs.Common.{◌≡◌, ℕ, ◌-◌, ◌<◌, List, Option}
use Rattle.oa_ndr.specs.promise.Reading.{Cursor, Decoder, many}
use Rattle.oa_ndr.proofs.Loop.{with_front, many_ends}
use Rattle.oa_record.specs.Reading.{ReadingFails}
use Rattle.oa_record.specs.declared.fault.RecordFault.{RecordFault}
use Rattle.oa_record.specs.declared.fault.RecordFault.TheVariants.{Stub, BadVarType, Memory}

pub many_fails : {A : Type 0} (read : Decoder A) (front : List A) (n i : ℕ) (s : Cursor) (total : Option (List A × Cursor)) (e : RecordFault) → i < n
    → ReadingFails e (read s) → with_front front (many read (n - i) s) ≡ total → ReadingFails e total
many_fails read front n i s total Stub lt none so_far = many_ends read front n i s total lt none so_far
many_fails read front n i s total (BadVarType index) lt none so_far = absurd none
many_fails read front n i s total Memory lt none so_far = tt
