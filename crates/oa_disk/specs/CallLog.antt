-- Definitions for contracts and proofs, beside promise/CallLog.
use Rattle.std.specs.Prelude.{◌≡◌, ℕ, ◌+◌, ◌<◌, ◌≤◌, ◌↔◌, List, [], ◌∷◌, ◌++◌, length, Result, IsOk, OnOk, OnErr, IfErr}
use Rattle.oa_disk.specs.declared.call.DeviceCall.{DeviceCall}
use Rattle.oa_disk.specs.declared.disk.DeviceFault.{DeviceFault}
use Rattle.oa_disk.specs.declared.ledger.CallLog.{CallLog}
use Rattle.oa_disk.specs.promise.Disk.{CountsFailures}

-- The call is executed exactly if the log has space for it and for the bytes that it writes. Then it is the last one
-- in the log; otherwise only the count of failures changes.
pub record Enters (call : DeviceCall) (bytes : List ℕ) (fault : DeviceFault) (old new : CallLog)
    (result : Result (Unit {0}) DeviceFault) : Type 0 where
  pub serves : IsOk result
      ↔ ((length old.calls.items < old.most_calls) × (length old.written.items + length bytes ≤ old.most_bytes))
  pub calls : OnOk result (new.calls.items ≡ old.calls.items ++ call ∷ [])
  pub written : OnOk result (new.written.items ≡ old.written.items ++ bytes)
  pub calls_err : OnErr result (new.calls.items ≡ old.calls.items)
  pub written_err : OnErr result (new.written.items ≡ old.written.items)
  pub calls_room : new.most_calls ≡ old.most_calls
  pub bytes_room : new.most_bytes ≡ old.most_bytes
  pub counts : CountsFailures old.failures new.failures result
  pub fault_is : IfErr result (λ e. e ≡ fault)

-- no call is logged, and there is space for this many calls and written bytes
pub record IsEmpty (calls bytes : ℕ) (ledger : CallLog) : Type 0 where
  pub calls_none : ledger.calls.items ≡ []
  pub written_none : ledger.written.items ≡ []
  pub failures_none : ledger.failures ≡ 0
  pub calls_room : ledger.most_calls ≡ calls
  pub bytes_room : ledger.most_bytes ≡ bytes
