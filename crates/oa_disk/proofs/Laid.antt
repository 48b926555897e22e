-- Rows of bytes that are known by what was written.
use Rattle.std.proofs.Common.{◌≡◌, ℕ, zero, suc, ◌+◌, ◌-◌, ◌<◌, ◌≤◌, List, [], ◌∷◌, ◌++◌, length, take, drop, length-take, replicate}
use Rattle.std.proofs.Common.{get_or, refl, sym, ◌∙◌, ap, subst, arith}
use Rattle.std.proofs.lemmas.List.{length-replicate, ext_get_or}
use Rattle.oa_disk.specs.Disk.{HasBytesAt}
use Rattle.oa_disk.specs.promise.Disk.{Only, DiskHistory, contents_of, image_of, layered, IsImage, last_state, synced}
use Rattle.oa_disk.specs.promise.Disk.{contents_after, count_all, overwritten, zeros}
use Rattle.oa_disk.specs.declared.call.DeviceCall.{DeviceCall}
use Rattle.oa_disk.specs.declared.call.DeviceCall.TheVariants.{Read, Write}
use Rattle.oa_disk.specs.declared.layers.SparseImage.{SparseImage}
use Rattle.oa_disk.specs.declared.ledger.CallLog.{CallLog}
use Rattle.oa_disk.specs.History.{IsHistory, with_call}
use Rattle.oa_disk.specs.promise.CallLog.{laid, history}
use Rattle.oa_disk.specs.Overwritten.{length-overwritten}
use Rattle.oa_disk.specs.Replay.{AllInside}
use Rattle.oa_disk.specs.Replaying.{contents_size, contents_bytes}
use Rattle.oa_disk.proofs.Steps.{get_at, replay_write, replay_other}

zeros_bytes : (n i : ℕ) → get_or (replicate n 0) i 0 < 256
zeros_bytes zero i = omega arith
zeros_bytes (suc n) zero = omega arith
zeros_bytes (suc n) (suc i) = zeros_bytes n i

zero_at : (n i : ℕ) → get_or (replicate n zero) i zero ≡ zero
zero_at zero i = refl
zero_at (suc n) zero = refl
zero_at (suc n) (suc i) = zero_at n i

no_call : (size : ℕ) → AllInside size []
no_call size k at count is = absurd (cc)

pub none_whole : (size : ℕ) → IsHistory size (layered size [] [])
unfolding zeros
none_whole size = record {
  bytes_of_first = zeros_bytes size;
  size_of_first = length-replicate size zero;
  bytes_of_all = λ i. omega arith;
  count_of_all = refl;
  inside = no_call size;
}

pub zeros_whole : (size : ℕ) (calls : List DeviceCall) (written : List ℕ) → calls ≡ [] → written ≡ [] → IsHistory size (layered size calls written)
zeros_whole size calls written none_called none_written =
    subst (λ (c : List DeviceCall). IsHistory size (layered size c written)) (sym none_called)
    (subst (λ (w : List ℕ). IsHistory size (layered size [] w)) (sym none_written) (none_whole size))

-- zeros are held by zeros
pub zeros_hold : (size at : ℕ) (window : List ℕ) (n : ℕ) → at + n ≤ size → window ≡ replicate n zero → HasBytesAt (zeros size) at window
unfolding zeros
zeros_hold size at window n inside is = record {
  within = omega (arith, ap length is, length-replicate n zero, length-replicate size zero);
  each = λ i lt. zero_at size (at + i) ∙ sym (ap (λ (l : List ℕ). get_or l i 0) is ∙ zero_at n i);
}

module _ (first : SparseImage) (ledger : CallLog) (calls : ledger.calls.items ≡ []) (written : ledger.written.items ≡ []) where
  start_is : history first ledger ≡ record { first = laid first; calls = []; written = [] }
  start_is = ap (λ (c : List DeviceCall). record { first = laid first; calls = c; written = ledger.written.items }) calls
      ∙ ap (λ (w : List ℕ). record { first = laid first; calls = []; written = w }) written

  pub start_whole : IsHistory first.size (history first ledger)
  start_whole = subst (λ (h : DiskHistory). IsHistory first.size h) (sym start_is) (record {
    bytes_of_first = contents_bytes first.size (layered first.size first.calls.items first.written.items) first.whole;
    size_of_first = contents_size first.size (layered first.size first.calls.items first.written.items) first.whole;
    bytes_of_all = λ i. omega arith;
    count_of_all = refl;
    inside = no_call first.size;
  })

  start_only : Only (laid first) (IsImage (synced (laid first)))
  start_only c image = ext_get_or 0 c (laid first) image.size (λ i lt. image.outside i tt)

  pub start_settled : Only (contents_of (history first ledger)) (image_of (history first ledger))
  start_settled = subst (λ (h : DiskHistory). Only (contents_of h) (image_of h)) (sym start_is) start_only

-- one write more
pub one_more : (size : ℕ) (calls : List DeviceCall) (written : List ℕ) (call : DeviceCall) (bytes : List ℕ) (later : List DeviceCall) (all : List ℕ)
    → later ≡ calls ++ call ∷ [] → all ≡ written ++ bytes
    → layered size later all ≡ with_call (layered size calls written) call bytes
one_more size calls written call bytes later all is_later is_all =
    ap (λ (c : List DeviceCall). layered size c all) is_later ∙ ap (λ (w : List ℕ). layered size (calls ++ call ∷ []) w) is_all

-- A window on a disk that has these calls behind it, and these to come, shows what it will be once they all are made.
pub record IsMade (disk : List ℕ) (calls : List DeviceCall) (written : List ℕ) (behind : List DeviceCall) (rest : List ℕ) (at : ℕ)
    (window : List ℕ) : Type 0 where
  pub mid : List ℕ
  pub size : length mid ≡ length disk
  pub holds : HasBytesAt mid at window
  pub same : (last_state (synced mid) behind rest).contents ≡ (last_state (synced disk) calls written).contents

module _ (disk : List ℕ) (calls : List DeviceCall) (written : List ℕ) (at : ℕ) where
  pub made_start : (window : List ℕ) → HasBytesAt disk at window → IsMade disk calls written calls written at window
  made_start window holds = record { mid = disk; size = refl; holds = holds; same = refl }

  pub made_end : (window : List ℕ) (behind : List DeviceCall) (rest : List ℕ) → behind ≡ [] → IsMade disk calls written behind rest at window
      → HasBytesAt (contents_after disk calls written) at window
  made_end window behind rest none made =
      subst (λ (l : List ℕ). HasBytesAt l at window) (sym (ap (λ (b : List DeviceCall). (last_state (synced made.mid) b rest).contents) none) ∙ made.same)
      made.holds

  module _ (i from : ℕ) (lt : i < length calls) where
    pub made_write : (fits : from + count_all (drop i calls) ≤ length written) (to n : ℕ) (window new : List ℕ)
        → get_or calls i Read ≡ Write to n → AllInside (length disk) calls
        → ((d : List ℕ) → to + length (take (from + n - from) (drop from written)) ≤ length d → HasBytesAt d at window
        → HasBytesAt (overwritten d to (take (from + n - from) (drop from written))) at new)
        → IsMade disk calls written (drop i calls) (drop from written) at window
        → IsMade disk calls written (drop (i + 1) calls) (drop (from + n) written) at new
    made_write fits to n window new is inside shown made =
        let bytes = take (from + n - from) (drop from written) in
        let long : length (take (from + n - from) (drop from written)) ≤ n = omega (arith, length-take (from + n - from) (drop from written)) in
        let room : to + length (take (from + n - from) (drop from written)) ≤ length made.mid =
        omega (arith, long, made.size, inside i to n (get_at calls i (Write to n) lt is)) in
        record {
          mid = overwritten made.mid to (take (from + n - from) (drop from written));
          size = length-overwritten made.mid (take (from + n - from) (drop from written)) to room ∙ made.size;
          holds = shown made.mid room made.holds;
          same = replay_write calls written i from lt fits to n made.mid (overwritten made.mid to (take (from + n - from) (drop from written))) is refl
              ∙ made.same;
        }

    pub made_other : (call : DeviceCall) (window : List ℕ) → get_or calls i Read ≡ call → ((to n : ℕ) → call ≡ Write to n → ⊥)
        → IsMade disk calls written (drop i calls) (drop from written) at window
        → IsMade disk calls written (drop (i + 1) calls) (drop from written) at window
    made_other call window is none made = record {
      mid = made.mid;
      size = made.size;
      holds = made.holds;
      same = replay_other calls written i from lt call made.mid is none ∙ made.same;
    }

-- the writes that a row of bytes is made of lie inside it
pub inside_zeros : (size : ℕ) (calls : List DeviceCall) → AllInside size calls → AllInside (length (zeros size)) calls
unfolding zeros
inside_zeros size calls all k at count is = omega (arith, length-replicate size zero, all k at count is)

-- all that it holds
pub held_whole : (disk bytes : List ℕ) → length bytes ≡ length disk → HasBytesAt disk 0 bytes → bytes ≡ disk
held_whole disk bytes same holds = ext_get_or 0 bytes disk same (λ i lt. sym (at_once i (0 + i) (omega arith) ∙ holds.each i lt))
  where
    at_once : (i j : ℕ) → j ≡ i → get_or disk i 0 ≡ get_or disk j 0
    at_once i j is = ap (λ (k : ℕ). get_or disk k 0) (sym is)
