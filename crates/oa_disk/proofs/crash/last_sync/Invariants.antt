use Rattle.std.proofs.Common.{◌≡◌, ◌⊎◌, ℕ, ◌-◌, ◌<◌, ◌≤◌, Some, slice_get}
use Rattle.oa_disk.specs.declared.call.DeviceCall.TheVariants.{Sync}
use Rattle.oa_disk.proofs.crash.last_sync.Given as goal

abbrev pub invariant-loop-i : goal.invariant-loop-i
invariant-loop-i l = record {
  among : l.end ≤ l.i;
  here : (l.end ≡ 0) ⊎ (slice_get l.calls (l.end - 1) ≡ Some Sync);
  none_later : (k : ℕ) → l.end ≤ k → k < l.i → slice_get l.calls k ≡ Some Sync → ⊥;
}
