-- One more call is made again.
use Rattle.std.proofs.Common.{◌≡◌, ℕ, zero, suc, ◌+◌, ◌-◌, ◌<◌, ◌≤◌, List, [], ◌∷◌, length, take, drop, get_or, Some, slice_get, refl, sym}
use Rattle.std.proofs.Common.{◌∙◌, ap, arith, length-drop}
use Rattle.std.proofs.lemmas.List.{drop_more, drop-drop, length-take-le}
use Rattle.oa_disk.specs.declared.call.DeviceCall.{DeviceCall}
use Rattle.oa_disk.specs.declared.call.DeviceCall.TheVariants.{Read, Write, Sync}
use Rattle.oa_disk.specs.declared.crash.Tear.{Tear}
use Rattle.oa_disk.specs.declared.crash.Tear.TheVariants.{Lost, Kept, Filled, Cut}
use Rattle.oa_disk.specs.promise.Disk.{DiskState, after_call, last_state, synced, count_of, count_all, overwritten}
use Rattle.oa_disk.specs.promise.Disk.{torn, tear_behind, torn_call, torn_all}
use Rattle.oa_disk.proofs.Calls.{same_contents}

pub get_at : (calls : List DeviceCall) (i : ℕ) (call : DeviceCall) → i < length calls → get_or calls i Read ≡ call → slice_get calls i ≡ Some call
get_at [] i call lt is = absurd (omega (arith, lt))
get_at (first ∷ calls) zero call lt is = ap (λ (c : DeviceCall). Some c) is
get_at (first ∷ calls) (suc i) call lt is = get_at calls i call (omega (arith, lt)) is

module _ (calls : List DeviceCall) (written : List ℕ) (i from : ℕ) (lt : i < length calls) where
  rest : (call : DeviceCall) → get_or calls i Read ≡ call → drop i calls ≡ call ∷ drop (i + 1) calls
  rest call is = drop_more calls i Read lt ∙ ap (λ (c : DeviceCall). c ∷ drop (i + 1) calls) is

  state_step : (s : DiskState) (call : DeviceCall) → get_or calls i Read ≡ call
      → last_state s (drop i calls) (drop from written) ≡ last_state (after_call s call (take (count_of call) (drop from written)))
      (drop (i + 1) calls) (drop (from + count_of call) written)
  state_step s call is =
      ap (λ (l : List DeviceCall). last_state s l (drop from written)) (rest call is)
      ∙ ap (λ (w : List ℕ). last_state (after_call s call (take (count_of call) (drop from written))) (drop (i + 1) calls) w)
      (drop-drop (count_of call) from written)

  torn_step : (tear : Tear) (disk : List ℕ) (call : DeviceCall) → get_or calls i Read ≡ call
      → torn_all tear disk (drop i calls) (drop from written) ≡ torn_all (tear_behind tear (count_of call))
      (torn_call tear disk call (take (count_of call) (drop from written))) (drop (i + 1) calls) (drop (from + count_of call) written)
  torn_step tear disk call is =
      ap (λ (l : List DeviceCall). torn_all tear disk l (drop from written)) (rest call is)
      ∙ ap (λ (w : List ℕ). torn_all (tear_behind tear (count_of call)) (torn_call tear disk call (take (count_of call) (drop from written)))
      (drop (i + 1) calls) w) (drop-drop (count_of call) from written)

  pub count_step : (call : DeviceCall) (next : ℕ) → get_or calls i Read ≡ call → next ≡ from + count_of call
      → from + count_all (drop i calls) ≡ next + count_all (drop (i + 1) calls)
  count_step call next is is_next = omega (arith, ap count_all (rest call is), is_next)

  pub count_other : (call : DeviceCall) (next : ℕ) → get_or calls i Read ≡ call → ((at n : ℕ) → call ≡ Write at n → ⊥) → next ≡ from
      → from + count_all (drop i calls) ≡ next + count_all (drop (i + 1) calls)
  count_other Read next is none is_next = count_step Read next is (omega (arith, is_next))
  count_other (Write at n) next is none is_next = absurd (none at n refl)
  count_other Sync next is none is_next = count_step Sync next is (omega (arith, is_next))

  module _ (fits : from + count_all (drop i calls) ≤ length written) where
    bytes_fit : (at n : ℕ) → get_or calls i Read ≡ Write at n → from + n ≤ length written
    bytes_fit at n is = omega (arith, fits, ap count_all (rest (Write at n) is))

    long : (at n m : ℕ) → get_or calls i Read ≡ Write at n → m ≡ n → length (take m (drop from written)) ≡ n
    long at n m is same = length-take-le m (drop from written) (omega (arith, length-drop from written, bytes_fit at n is, same)) ∙ same

    -- a write is made again
    pub replay_write : (at n : ℕ) (old new : List ℕ) → get_or calls i Read ≡ Write at n
        → new ≡ overwritten old at (take (from + n - from) (drop from written))
        → (last_state (synced new) (drop (i + 1) calls) (drop (from + n) written)).contents ≡ (last_state (synced old) (drop i calls)
        (drop from written)).contents
    replay_write at n old new is is_new =
        let m_is : from + n - from ≡ n = omega arith in
        let now : new ≡ overwritten old at (take n (drop from written)) = is_new ∙ ap (λ (k : ℕ). overwritten old at (take k (drop from written))) m_is in
        same_contents (drop (i + 1) calls) (synced new) (after_call (synced old) (Write at n) (take n (drop from written))) (drop (from + n) written) now
        ∙ sym (ap (λ (t : DiskState). t.contents) (state_step (synced old) (Write at n) is))

    -- a write is torn
    pub torn_write : (at n : ℕ) (tear rest : Tear) (old new : List ℕ) → get_or calls i Read ≡ Write at n
        → new ≡ torn tear old at (take (from + n - from) (drop from written))
        → rest ≡ tear_behind tear (length (take (from + n - from) (drop from written)))
        → torn_all rest new (drop (i + 1) calls) (drop (from + n) written) ≡ torn_all tear old (drop i calls) (drop from written)
    torn_write at n tear later old new is is_new is_rest =
        let m_is : from + n - from ≡ n = omega arith in
        ap (λ (d : List ℕ). torn_all later d (drop (i + 1) calls) (drop (from + n) written))
        (is_new ∙ ap (λ (k : ℕ). torn tear old at (take k (drop from written))) m_is)
        ∙ ap (λ (t : Tear). torn_all t (torn tear old at (take n (drop from written))) (drop (i + 1) calls) (drop (from + n) written))
        (is_rest ∙ ap (λ (k : ℕ). tear_behind tear k) (long at n (from + n - from) is m_is))
        ∙ sym (torn_step tear old (Write at n) is)

  zero_more : drop (from + 0) written ≡ drop from written
  zero_more = let same : from + 0 ≡ from = omega arith in ap (λ (k : ℕ). drop k written) same

  -- another call changes nothing
  pub replay_other : (call : DeviceCall) (disk : List ℕ) → get_or calls i Read ≡ call → ((at n : ℕ) → call ≡ Write at n → ⊥)
      → (last_state (synced disk) (drop (i + 1) calls) (drop from written)).contents ≡ (last_state (synced disk) (drop i calls)
      (drop from written)).contents
  replay_other Read disk is none = ap (λ (w : List ℕ). (last_state (synced disk) (drop (i + 1) calls) w).contents) (sym zero_more)
      ∙ sym (ap (λ (t : DiskState). t.contents) (state_step (synced disk) Read is))
  replay_other (Write at n) disk is none = absurd (none at n refl)
  replay_other Sync disk is none = ap (λ (w : List ℕ). (last_state (synced disk) (drop (i + 1) calls) w).contents) (sym zero_more)
      ∙ sym (ap (λ (t : DiskState). t.contents) (state_step (synced disk) Sync is))

  rest_of_none : (tear : Tear) → tear_behind tear 0 ≡ tear
  rest_of_none Lost = refl
  rest_of_none Kept = refl
  rest_of_none (Filled byte) = refl
  rest_of_none (Cut n) = ap (λ (k : ℕ). Cut k) (omega arith)

  pub torn_other : (tear : Tear) (call : DeviceCall) (disk : List ℕ) → get_or calls i Read ≡ call → ((at n : ℕ) → call ≡ Write at n → ⊥)
      → torn_all tear disk (drop (i + 1) calls) (drop from written) ≡ torn_all tear disk (drop i calls) (drop from written)
  torn_other tear Read disk is none =
      ap (λ (w : List ℕ). torn_all tear disk (drop (i + 1) calls) w) (sym zero_more)
      ∙ ap (λ (t : Tear). torn_all t disk (drop (i + 1) calls) (drop (from + 0) written)) (sym (rest_of_none tear)) ∙ sym (torn_step tear disk Read is)
  torn_other tear (Write at n) disk is none = absurd (none at n refl)
  torn_other tear Sync disk is none =
      ap (λ (w : List ℕ). torn_all tear disk (drop (i + 1) calls) w) (sym zero_more)
      ∙ ap (λ (t : Tear). torn_all t disk (drop (i + 1) calls) (drop (from + 0) written)) (sym (rest_of_none tear)) ∙ sym (torn_step tear disk Sync is)
