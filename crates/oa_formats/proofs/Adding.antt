-- Windows that bytes are added to.
use Rattle.std.proofs.Common.{◌≡◌, ℕ, ◌+◌, ◌-◌, ◌≤◌, min, ⊎_elim, List, [], ◌++◌, length, take, drop, refl, sym, ◌∙◌, ap, arith, append_assoc, length-drop}
use Rattle.std.proofs.lemmas.Bool.{cases_lt}
use Rattle.std.proofs.lemmas.List.{drop-drop, append-nil, length-take, take-append-drop, take_all}
use Rattle.std.proofs.Math.ListN.{drop_of_length-le}
use Rattle.std.proofs.Math.Seq.{drop-nil, take-nil, take-length}
use Rattle.oa_formats.specs.Windows.{Showing, added, same_parts, Adds}
use Rattle.oa_formats.specs.declared.window.OutputCursor.{OutputCursor}

less_none : (n : ℕ) → n - 0 ≡ n
less_none n = omega arith

-- no bytes
pub added_none : (s : Showing) → added s [] ≡ s
unfolding added
added_none s =
    same_parts _ _ _ _ _ _ _ _ (rw (drop-nil {A = ℕ} s.skip, take-nil {A = ℕ} (length s.room)) (append-nil s.front))
    (rw (drop-nil {A = ℕ} s.skip) refl) (rw (drop-nil {A = ℕ} s.skip, take-nil {A = ℕ} (length s.room)) (omega arith)) (less_none s.skip)

-- no more bytes are left out than come
pub left_out : (skip : ℕ) (bytes : List ℕ) → (drop (min skip (length bytes)) bytes ≡ drop skip bytes)
    × (skip - min skip (length bytes) ≡ skip - length bytes)
left_out skip bytes = (
  ⊎_elim
      (λ few. let is : min skip (length bytes) ≡ skip = omega (arith, few) in ap (λ (n : ℕ). drop n bytes) is)
      (λ many.
      let le : length bytes ≤ skip = omega (arith, many) in
      let is : min skip (length bytes) ≡ length bytes = omega (arith, many) in
      ap (λ (n : ℕ). drop n bytes) is ∙ drop_of_length-le bytes {i = length bytes} (omega arith) ∙ sym (drop_of_length-le bytes {i = skip} le))
      (cases_lt skip (length bytes)),
  omega arith,
)

-- what stands behind bytes that were put in, as many as there was room for
pub behind : (at n : ℕ) (bytes out : List ℕ) → at ≤ length out → n ≡ min (length bytes) (length out - at)
    → drop (at + n) out ≡ drop (length bytes) (drop at out)
behind at n bytes out inside is =
    let whole : drop (length bytes) (drop at out) ≡ drop (at + length bytes) out = drop-drop (length bytes) at out in
    ⊎_elim
    (λ fits. let same : at + n ≡ at + length bytes = omega (arith, is, fits) in ap (λ (k : ℕ). drop k out) same ∙ sym whole)
    (λ full.
    let le : length out ≤ at + n = omega (arith, is, full, inside) in
    let other : length out ≤ at + length bytes = omega (arith, full, inside) in
    drop_of_length-le out {i = at + n} le ∙ sym (whole ∙ drop_of_length-le out {i = at + length bytes} other))
    (cases_lt (length bytes) (length out - at))

-- what a slice holds that had room for the bytes alone
pub filled : (old new : OutputCursor) (before after bytes : List ℕ) → Adds bytes old new before after → old.skip ≡ 0
    → length (drop old.at before) ≡ length bytes → after ≡ take old.at before ++ bytes
unfolding added
filled old new before after bytes adds none long =
    let front : take new.at after ≡ take old.at before ++ take (length (drop old.at before)) (drop old.skip bytes) = ap (λ (s : Showing). s.front) adds in
    let room : drop new.at after ≡ drop (length (drop old.skip bytes)) (drop old.at before) = ap (λ (s : Showing). s.room) adds in
    let given : take (length (drop old.at before)) (drop old.skip bytes) ≡ bytes = rw (none, long) (take-length bytes) in
    let full : drop (length (drop old.skip bytes)) (drop old.at before) ≡ [] =
    rw none (drop_of_length-le (drop old.at before) {i = length bytes} (omega (arith, long))) in
    sym (take-append-drop new.at after) ∙ rw (front, room, given, full) (append-nil (take old.at before ++ bytes))

-- what a slice holds once a value's bytes have come: those that are not left out, as many as there was room for
pub gave : (old new : OutputCursor) (before after bytes : List ℕ) (n : ℕ) → Adds bytes old new before after → old.at ≤ length before
    → n ≡ min (length before - old.at) (length (drop old.skip bytes))
    → (new.at ≡ old.at + n) × (after ≡ take old.at before ++ (take n (drop old.skip bytes) ++ drop (old.at + n) before))
unfolding added
gave old new before after bytes n adds inside is =
    let text = drop old.skip bytes in
    let few = length (drop old.at before) in
    let long : length (take few text) ≡ n = omega (arith, is, length-take few text, length-drop old.at before) in
    let same : take few text ≡ take n text = by_count few n text (omega (arith, is, length-drop old.at before)) in
    let place : new.at ≡ old.at + length (take few text) = ap (λ (s : Showing). s.at) adds in
    let front : take new.at after ≡ take old.at before ++ take few text = ap (λ (s : Showing). s.front) adds in
    let room : drop new.at after ≡ drop (length text) (drop old.at before) = ap (λ (s : Showing). s.room) adds in (
      omega (arith, place, long),
      sym (take-append-drop new.at after) ∙ rw (front, room, same) (append_assoc (take old.at before) (take n text) (drop (length text) (drop old.at before))
          ∙ ap (λ (l : List ℕ). take old.at before ++ (take n text ++ l)) (sym (behind old.at n text before inside (omega (arith, is))))),
    )
  where
    by_count : (k m : ℕ) (xs : List ℕ) → min k (length xs) ≡ m → take k xs ≡ take m xs
    by_count k m xs e = ⊎_elim
        (λ few. let same : m ≡ k = omega (arith, e, few) in ap (λ (i : ℕ). take i xs) (sym same))
        (λ many. let low : length xs ≤ k = omega (arith, many) in let same : m ≡ length xs = omega (arith, e, many) in
        take_all k xs low ∙ sym (ap (λ (i : ℕ). take i xs) same ∙ take-length xs))
        (cases_lt k (length xs))
