-- A batch with one event more.
use Rattle.std.proofs.Common.{◌≡◌, ◌⊎◌, ℕ, ◌+◌, ◌-◌, ◌≤◌, max, ⊎_elim, List, [], ◌∷◌, ◌++◌, length, take, drop, refl, sym, ◌∙◌, ap, arith}
use Rattle.std.proofs.Common.{append_assoc, length-append, length-drop}
use Rattle.std.proofs.lemmas.List.{append-nil, drop-append-le, drop_all, length-take-le, take-append-drop, take-append-le, take_all}
use Rattle.std.proofs.Math.Seq.{take-append_seam}
use Rattle.oa_journal.specs.Append.{group_of}

-- the last byte of a batch is free
group_before : (front last : List ℕ) → 4 ≤ length front → length last ≡ 1 → group_of (front ++ last) ≡ drop 4 front
group_before front last long one =
    let size : length (front ++ last) - 5 ≡ length (drop 4 front) = omega (arith, length-append front last, length-drop 4 front) in
    ap (λ (n : ℕ). take n (drop 4 (front ++ last))) size
    ∙ ap (λ (l : List ℕ). take (length (drop 4 front)) l) (drop-append-le 4 front last long)
    ∙ take-append_seam (drop 4 front) last

no_group : (batch : List ℕ) → length batch ≡ 0 → group_of batch ≡ []
no_group [] none = refl
no_group (b ∷ batch) none = absurd (omega (arith, none))

-- what stands before the place of the next event, in a batch that was made longer
before_next : (old more front : List ℕ) (end place : ℕ) → (length old ≡ 0) ⊎ (5 ≤ length old) → place ≡ max (length old) 5 - 1 → length old ≤ end
    → length front ≡ place → front ≡ take place (take end old ++ more) → drop 4 front ≡ group_of old
before_next old more front end place begun at longer long is = ⊎_elim
    (λ none. drop_all 4 front (omega (arith, long, at, none)) ∙ sym (no_group old none))
    (λ some.
    let inside : place ≤ length old = omega (arith, at, some) in
    let size : length (take place old) ≡ place = length-take-le place old inside in
    ap (λ (l : List ℕ). drop 4 l) (is ∙ ap (λ (l : List ℕ). take place (l ++ more)) (take_all end old longer) ∙ take-append-le place old more inside)
    ∙ sym (group_before (take place old) (drop place old) (omega (arith, size, at, some)) (omega (arith, length-drop place old, at, some)))
    ∙ ap group_of (take-append-drop place old))
    begun

-- an event is written over the free byte, and one byte is free behind it
pub added : (old more longer written event : List ℕ) (begun end size : ℕ) → (length old ≡ 0) ⊎ (5 ≤ length old) → begun ≡ max (length old) 5
    → end ≡ begun + length event → size ≡ end
    → length longer ≡ end → longer ≡ take end old ++ more → written ≡ take (begun - 1) longer ++ (event ++ drop (begun - 1 + length event) longer)
    → group_of (take size (written ++ drop (length written) longer)) ≡ group_of old ++ event
added old more longer written event begun end size was first last all long is put =
    let place = begun - 1 in
    let front = take place longer in
    let tail = drop (place + length event) longer in
    let fore : length front ≡ place = length-take-le place longer (omega (arith, long, last)) in
    let one : length tail ≡ 1 = omega (arith, length-drop (place + length event) longer, long, last, first) in
    let count : length written ≡ end = omega (arith, ap length put, length-append front (event ++ tail), length-append event tail, fore, one, last, first) in
    let none : drop (length written) longer ≡ [] = drop_all (length written) longer (omega (arith, long, count)) in
    let whole : take size (written ++ drop (length written) longer) ≡ written =
    ap (λ (l : List ℕ). take size (written ++ l)) none ∙ ap (λ (l : List ℕ). take size l) (append-nil written)
    ∙ take_all size written (omega (arith, count, all)) in
    ap group_of (whole ∙ put ∙ sym (append_assoc front event tail))
    ∙ group_before (front ++ event) tail (omega (arith, length-append front event, fore, first)) one
    ∙ drop-append-le 4 front event (omega (arith, fore, first))
    ∙ ap (λ (l : List ℕ). l ++ event) (before_next old more front end place was (omega (arith, first)) (omega (arith, first, last)) fore
    (ap (λ (l : List ℕ). take place l) is))

-- only the free bytes
pub no_events : (batch : List ℕ) → length batch ≤ 5 → length (group_of batch) ≡ 0
no_events batch few =
    let none : length batch - 5 ≡ 0 = omega (arith, few) in
    ap (λ (n : ℕ). length (take n (drop 4 batch))) none
