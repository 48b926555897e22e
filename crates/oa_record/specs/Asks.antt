-- Definitions for contracts and proofs, beside promise/Asks.
use Rattle.std.specs.Prelude.{ℕ, List, Result, Ok, Err}
use Rattle.oa_record.specs.declared.request.Request.{Request}
use Rattle.oa_record.specs.declared.fault.RecordFault.{RecordFault}
use Rattle.oa_record.specs.declared.fault.RecordFault.TheVariants.{Stub, BadVarType, Memory}
use Rattle.oa_record.specs.promise.Asks.{Asks, IsStub, IsBadVarType, MayStarve}

-- The result of decoding a body is right: the request that it encodes, the one error that it has, or `Memory` if its
-- decoding may run out of memory.
abbrev pub IsRequest : List ℕ → Result Request RecordFault → Type 0
IsRequest body (Ok request) = Asks body request
IsRequest body (Err Stub) = IsStub body
IsRequest body (Err (BadVarType index)) = IsBadVarType body index
IsRequest body (Err Memory) = MayStarve body
