-- Lemmas about the bytes of a disk after a write.
use Rattle.std.proofs.Common.{◌≡◌, ◌⊎◌, inl, inr, ℕ, zero, suc, ◌+◌, ◌-◌, ◌<◌, ◌≤◌, List, [], ◌∷◌, ◌++◌, length, take}
use Rattle.std.proofs.Common.{drop, get_or, refl, sym, ◌∙◌, ap, arith, length-append, length-drop}
use Rattle.std.proofs.lemmas.Bool.{cases_lt}
use Rattle.std.proofs.lemmas.List.{length-take-le, get_or_append_left, get_or-append_right, get_or-take, get_or-drop}
use Rattle.oa_disk.specs.Disk.{HasBytesAt}
use Rattle.oa_disk.specs.promise.Disk.{Torn, AllBytes, overwritten}

pub take_bytes : (n : ℕ) (xs : List ℕ) → AllBytes xs → AllBytes (take n xs)
take_bytes zero xs all i = omega arith
take_bytes (suc n) [] all i = omega arith
take_bytes (suc n) (x ∷ xs) all zero = all zero
take_bytes (suc n) (x ∷ xs) all (suc i) = take_bytes n xs (λ j. all (suc j)) i

pub drop_bytes : (n : ℕ) (xs : List ℕ) → AllBytes xs → AllBytes (drop n xs)
drop_bytes zero xs all = all
drop_bytes (suc n) [] all = all
drop_bytes (suc n) (x ∷ xs) all = drop_bytes n xs (λ j. all (suc j))

pub append_bytes : (xs ys : List ℕ) → AllBytes xs → AllBytes ys → AllBytes (xs ++ ys)
append_bytes [] ys front behind i = behind i
append_bytes (x ∷ xs) ys front behind zero = front zero
append_bytes (x ∷ xs) ys front behind (suc i) = append_bytes xs ys (λ j. front (suc j)) behind i

pub overwritten_bytes : (disk : List ℕ) (at : ℕ) (bytes : List ℕ) → AllBytes disk → AllBytes bytes
    → AllBytes (overwritten disk at bytes)
overwritten_bytes disk at bytes old new =
    append_bytes (take at disk) (bytes ++ drop (at + length bytes) disk) (take_bytes at disk old)
    (append_bytes bytes (drop (at + length bytes) disk) new (drop_bytes (at + length bytes) disk old))

module _ (disk bytes : List ℕ) (at : ℕ) (inside : at + length bytes ≤ length disk) where
  front : length (take at disk) ≡ at
  front = length-take-le at disk (omega arith)

  pub length-overwritten : length (overwritten disk at bytes) ≡ length disk
  length-overwritten = omega (
    arith,
    length-append (take at disk) (bytes ++ drop (at + length bytes) disk),
    length-append bytes (drop (at + length bytes) disk),
    length-drop (at + length bytes) disk,
    front,
  )

  pub overwritten_below : (i : ℕ) → i < at → get_or (overwritten disk at bytes) i 0 ≡ get_or disk i 0
  overwritten_below i lt =
      get_or_append_left (take at disk) (bytes ++ drop (at + length bytes) disk) 0 i (omega (arith, front))
      ∙ get_or-take at disk i 0 lt

  behind : (i : ℕ) → at ≤ i
      → get_or (overwritten disk at bytes) i 0 ≡ get_or (bytes ++ drop (at + length bytes) disk) (i - at) 0
  behind i le = get_or-append_right (take at disk) (bytes ++ drop (at + length bytes) disk) at i 0 front le

  pub overwritten_in : (i : ℕ) → i < length bytes → get_or (overwritten disk at bytes) (at + i) 0 ≡ get_or bytes i 0
  overwritten_in i lt =
      let same : at + i - at ≡ i = omega arith in
      behind (at + i) (omega arith) ∙ ap (λ (k : ℕ). get_or (bytes ++ drop (at + length bytes) disk) k 0) same
      ∙ get_or_append_left bytes (drop (at + length bytes) disk) 0 i lt

  pub overwritten_above : (i : ℕ) → at + length bytes ≤ i → get_or (overwritten disk at bytes) i 0 ≡ get_or disk i 0
  overwritten_above i le =
      let same : at + length bytes + (i - at - length bytes) ≡ i = omega arith in
      behind i (omega arith)
      ∙ get_or-append_right bytes (drop (at + length bytes) disk) (length bytes) (i - at) 0 refl (omega arith)
      ∙ get_or-drop (at + length bytes) disk (i - at - length bytes) 0
      ∙ ap (λ (k : ℕ). get_or disk k 0) same

  pub overwritten_holds : HasBytesAt (overwritten disk at bytes) at bytes
  overwritten_holds = record { within = omega (arith, length-overwritten, inside); each = overwritten_in }

  at_each : AllBytes bytes → (i : ℕ) → (i < at) ⊎ (at ≤ i) → (i < at + length bytes) ⊎ (at + length bytes ≤ i)
      → (get_or (overwritten disk at bytes) i 0 ≡ get_or disk i 0) ⊎ (get_or (overwritten disk at bytes) i 0 < 256)
  at_each all i (inl lt) other = inl (overwritten_below i lt)
  at_each all i (inr le) (inr past) = inl (overwritten_above i past)
  at_each all i (inr le) (inl here) =
      let place : at + (i - at) ≡ i = omega arith in
      let is : get_or (overwritten disk at bytes) i 0 ≡ get_or bytes (i - at) 0 =
      ap (λ (j : ℕ). get_or (overwritten disk at bytes) j 0) (sym place) ∙ overwritten_in (i - at) (omega arith) in
      inr (omega (arith, is, all (i - at)))

  pub overwritten_torn : AllBytes bytes → Torn at (length bytes) disk (overwritten disk at bytes)
  overwritten_torn all = record {
    size = length-overwritten;
    below = overwritten_below;
    above = overwritten_above;
    bytes = λ i. at_each all i (cases_lt i at) (cases_lt i (at + length bytes));
  }

  pub torn_from : AllBytes disk → Torn at (length bytes) (overwritten disk at bytes) disk
  torn_from all = record {
    size = sym length-overwritten;
    below = λ i lt. sym (overwritten_below i lt);
    above = λ i le. sym (overwritten_above i le);
    bytes = λ i. inr (all i);
  }
