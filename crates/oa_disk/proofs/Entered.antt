-- A call that a record has taken, or has not.
use Rattle.std.proofs.Common.{◌≡◌, ℕ, List, Result, Ok, Err, OnOk, OnErr, refl, sym, ◌∙◌, ap}
use Rattle.oa_disk.specs.declared.call.DeviceCall.{DeviceCall}
use Rattle.oa_disk.specs.declared.disk.DeviceFault.{DeviceFault}
use Rattle.oa_disk.specs.declared.layers.SparseImage.{SparseImage}
use Rattle.oa_disk.specs.declared.ledger.CallLog.{CallLog}
use Rattle.oa_disk.specs.promise.Disk.{DiskHistory}
use Rattle.oa_disk.specs.History.{with_call}
use Rattle.oa_disk.specs.promise.CallLog.{laid, history}
use Rattle.oa_disk.specs.CallLog.{Enters}

pub both : {E A B C : Type 0} (r : Result (Unit {0}) E) → (A → B → C) → OnOk r A → OnOk r B → OnOk r C
both (Ok x) f a b = f a b
both (Err e) f a b = tt

pub both_err : {E A B C : Type 0} (r : Result (Unit {0}) E) → (A → B → C) → OnErr r A → OnErr r B → OnErr r C
both_err (Ok x) f a b = tt
both_err (Err e) f a b = f a b

pub either_of : {E A B C : Type 0} (r : Result (Unit {0}) E) → (A → C) → (B → C) → OnOk r A → OnErr r B → C
either_of (Ok x) f g a b = f a
either_of (Err e) f g a b = g b

pub on_err_weaker : {E A B : Type 0} (r : Result (Unit {0}) E) → (A → B) → OnErr r A → OnErr r B
on_err_weaker (Ok x) f a = tt
on_err_weaker (Err e) f a = f a

module _ (first : SparseImage) (old new : CallLog) where
  pub is_history : (h : DiskHistory) → h.first ≡ laid first → new.calls.items ≡ h.calls → new.written.items ≡ h.written → history first new ≡ h
  is_history h is_first is_calls is_written =
      ap (λ (c : List DeviceCall). record { first = laid first; calls = c; written = new.written.items }) is_calls
      ∙ ap (λ (w : List ℕ). record { first = laid first; calls = h.calls; written = w }) is_written
      ∙ ap (λ (l : List ℕ). record { first = l; calls = h.calls; written = h.written }) (sym is_first)

module _ (first : SparseImage) (call : DeviceCall) (bytes : List ℕ) (fault : DeviceFault) (old new : CallLog) (r : Result (Unit {0}) DeviceFault)
    (is : Enters call bytes fault old new r) where
  pub recorded : OnOk r (history first new ≡ with_call (history first old) call bytes)
  recorded = both r (λ calls written.
      is_history first old new (with_call (history first old) call bytes) refl calls written) is.calls is.written

  pub refused : OnErr r (history first new ≡ history first old)
  refused = both_err r (λ calls written. is_history first old new (history first old) refl calls written) is.calls_err is.written_err
