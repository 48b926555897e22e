-- A window on a disk.
use Rattle.std.proofs.Common.{◌≡◌, ◌⊎◌, inl, inr, ℕ, ◌+◌, ◌-◌, ◌<◌, ◌≤◌, List, length, take, drop, get_or, sym, ◌∙◌, ap, arith, length-drop}
use Rattle.std.proofs.Common.{min, max}
use Rattle.std.proofs.lemmas.Bool.{cases_lt}
use Rattle.std.proofs.lemmas.List.{length-take-le, get_or-take, get_or-drop}
use Rattle.oa_disk.specs.Disk.{HasBytesAt}
use Rattle.oa_disk.specs.Overwritten.{length-overwritten, overwritten_below, overwritten_in, overwritten_above}
use Rattle.oa_disk.specs.promise.Disk.{overwritten}

module _ (disk window bytes : List ℕ) (at to : ℕ) (inside : to + length bytes ≤ length disk) (holds : HasBytesAt disk at window) (low high : ℕ)
    (is_low : low ≡ max to at) (is_high : high ≡ min (to + length bytes) (at + length window)) where
  long : length (overwritten disk to bytes) ≡ length disk
  long = length-overwritten disk bytes to inside

  -- the write lies beside the window
  beside : high ≤ low → (i : ℕ) → i < length window → (at + i < to) ⊎ (to ≤ at + i)
      → (at + i < to + length bytes) ⊎ (to + length bytes ≤ at + i)
      → get_or (overwritten disk to bytes) (at + i) 0 ≡ get_or window i 0
  beside none i lt (inl below) other = overwritten_below disk bytes to inside (at + i) below ∙ holds.each i lt
  beside none i lt (inr from) (inl before) = absurd (omega (arith, none, is_low, is_high))
  beside none i lt (inr from) (inr above) = overwritten_above disk bytes to inside (at + i) above ∙ holds.each i lt

  pub shown_out : high ≤ low → HasBytesAt (overwritten disk to bytes) at window
  shown_out none = record {
    within = omega (arith, long, holds.within);
    each = λ i lt. beside none i lt (cases_lt (at + i) to) (cases_lt (at + i) (to + length bytes));
  }

  -- a part of it lies in the window
  module _ (some : low < high) where
    piece : List ℕ
    piece = take (high - to - (low - to)) (drop (low - to) bytes)

    count : length (take (high - to - (low - to)) (drop (low - to) bytes)) ≡ high - low
    count = let shorter : high - to - (low - to) ≤ length (drop (low - to) bytes) = omega (arith, length-drop (low - to) bytes, is_low, is_high) in
        omega (arith, length-take-le (high - to - (low - to)) (drop (low - to) bytes) shorter, is_low, is_high)

    fits : low - at + length (take (high - to - (low - to)) (drop (low - to) bytes)) ≤ length window
    fits = omega (arith, count, is_low, is_high)

    at_each : (i : ℕ) → i < length window → (at + i < low) ⊎ (low ≤ at + i) → (at + i < high) ⊎ (high ≤ at + i)
        → get_or (overwritten disk to bytes) (at + i) 0 ≡ get_or (overwritten window (low - at)
        (take (high - to - (low - to)) (drop (low - to) bytes))) i 0
    at_each i lt (inl below) other =
        overwritten_below disk bytes to inside (at + i) (omega (arith, is_low)) ∙ holds.each i lt
        ∙ sym (overwritten_below window (take (high - to - (low - to)) (drop (low - to) bytes)) (low - at) fits i (omega arith))
    at_each i lt (inr from) (inr above) =
        overwritten_above disk bytes to inside (at + i) (omega (arith, is_high)) ∙ holds.each i lt
        ∙ sym (overwritten_above window (take (high - to - (low - to)) (drop (low - to) bytes)) (low - at) fits i (omega (arith, count, is_low)))
    at_each i lt (inr from) (inl before) =
        let k : ℕ = at + i - low in
        let here : at + i ≡ to + (low - to + (at + i - low)) = omega (arith, is_low) in
        let there : low - at + (at + i - low) ≡ i = omega (arith, is_low) in
        ap (λ (j : ℕ). get_or (overwritten disk to bytes) j 0) here
        ∙ overwritten_in disk bytes to inside (low - to + (at + i - low)) (omega (arith, is_low, is_high))
        ∙ sym (
        ap (λ (j : ℕ). get_or (overwritten window (low - at) (take (high - to - (low - to)) (drop (low - to) bytes))) j 0) (sym there)
        ∙ overwritten_in window (take (high - to - (low - to)) (drop (low - to) bytes)) (low - at) fits (at + i - low) (omega (arith, count))
        ∙ get_or-take (high - to - (low - to)) (drop (low - to) bytes) (at + i - low) 0 (omega (arith, is_low))
        ∙ get_or-drop (low - to) bytes (at + i - low) 0
        )

    pub shown_in : (new : List ℕ) → new ≡ overwritten window (low - at) (take (high - to - (low - to)) (drop (low - to) bytes))
        → HasBytesAt (overwritten disk to bytes) at new
    shown_in new is = record {
      within =
          omega (arith, long, holds.within, ap length is, length-overwritten window (take (high - to - (low - to)) (drop (low - to) bytes)) (low - at) fits);
      each =
          λ i lt. at_each i (omega (arith, lt, ap length is, length-overwritten window (take (high - to - (low - to)) (drop (low - to) bytes)) (low - at) fits))
          (cases_lt (at + i) low) (cases_lt (at + i) high) ∙ ap (λ (l : List ℕ). get_or l i 0) (sym is);
    }
