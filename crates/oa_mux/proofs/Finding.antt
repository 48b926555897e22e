-- Where the record ends that begins with some bytes and goes on with others.
use Rattle.std.proofs.Common.{◌≡◌, ◌⊎◌, ◌≤◌, ◌<◌, ℕ, ◌+◌, ◌-◌, List, ◌++◌, length, take, drop, sym, ap, ◌∙◌, inl, inr, arith}
use Rattle.std.proofs.lemmas.Bool.{cases_lt}
use Rattle.std.proofs.lemmas.List.{append_assoc, length-append, length-take-le, take-append-le, take-append-drop}
use Rattle.std.specs.Int.{w32, from_le_bytes}
use Rattle.oa_model.specs.promise.Limits.{max_request_bytes}
use Rattle.oa_frame.specs.declared.ends.End.TheVariants.{Closed}
use Rattle.oa_mux.specs.Readers.{IsPartRecord}
use Rattle.oa_mux.specs.promise.Readers.{said}
use Rattle.oa_mux.specs.Steps.{FindsEnd}
use Rattle.oa_mux.specs.declared.found.Found.TheVariants as found

long_front : (front bytes : List ℕ) (k : ℕ) → k ≤ length bytes → length (front ++ take k bytes) ≡ length front + k
long_front front bytes k h = length-append front (take k bytes) ∙ ap (λ n. length front + n) (length-take-le k bytes h)

-- the first four bytes say the same, however many follow
same_said : (front bytes : List ℕ) (k : ℕ) → k ≤ length bytes → 4 ≤ length front + k → said (front ++ take k bytes) ≡ said (front ++ bytes)
same_said front bytes k h four =
    let len = long_front front bytes k h in
    let all : front ++ bytes ≡ (front ++ take k bytes) ++ drop k bytes = ap (λ l. front ++ l) (sym (take-append-drop k bytes))
    ∙ sym (append_assoc front (take k bytes) (drop k bytes)) in
    ap (from_le_bytes w32) (sym (ap (take 4) all ∙ take-append-le 4 (front ++ take k bytes) (drop k bytes) (omega (arith, len, four))))

same_front : (front bytes : List ℕ) → 4 ≤ length front → said (front ++ bytes) ≡ said front
same_front front bytes h = ap (from_le_bytes w32) (take-append-le 4 front bytes h)

pub finds_closed : (n : ℕ) (front bytes : List ℕ) → n ≡ said (front ++ bytes) → 4 ≤ length front + length bytes → length front < 4 → n ≡ 0
    → FindsEnd (found.Ends Closed (4 - length front)) front bytes
finds_closed n front bytes s four few zero =
    let k : 4 - length front ≤ length bytes = omega (arith, four) in
    let len = long_front front bytes (4 - length front) k in
    (omega (arith, few), k, (omega (arith, len, few), same_said front bytes (4 - length front) k (omega (arith, few)) ∙ sym s ∙ zero))

pub finds_whole : (n : ℕ) (front bytes : List ℕ) → IsPartRecord front → n ≡ said (front ++ bytes) → 4 ≤ length front + length bytes
    → ((length front < 4) × (n ≡ 0 → ⊥)) ⊎ (4 ≤ length front) → ((length front < 4) × (n ≤ max_request_bytes)) ⊎ (4 ≤ length front)
    → 4 + n - length front ≤ length bytes
    → FindsEnd (found.Whole (4 + n - length front)) front bytes
finds_whole n front bytes part s four has fits all = by part
  where
    some : length front < 4 → 0 < n
    some few = above has
      where
        above : ((length front < 4) × (n ≡ 0 → ⊥)) ⊎ (4 ≤ length front) → 0 < n
        above (inl h) = let a = h.1 in omega (arith, a)
        above (inr h) = absurd (omega (arith, few, h))

    short : length front < 4 → n ≤ max_request_bytes
    short few = below fits
      where
        below : ((length front < 4) × (n ≤ max_request_bytes)) ⊎ (4 ≤ length front) → n ≤ max_request_bytes
        below (inl h) = h.1
        below (inr h) = absurd (omega (arith, few, h))

    given : (k : ℕ) → 0 < n → n ≤ max_request_bytes → length front + k ≡ 4 + n → k ≤ length bytes → 0 < k → FindsEnd (found.Whole k) front bytes
    given k some short sum all more =
        let len = long_front front bytes k all in
        let says = same_said front bytes k all (omega (arith, sum)) ∙ sym s in
        (more, all, record { some = omega (arith, says, some); short = omega (arith, says, short); all = omega (arith, len, sum, says) })

    by : IsPartRecord front → FindsEnd (found.Whole (4 + n - length front)) front bytes
    by (inl few) = given (4 + n - length front) (some few) (short few) (omega (arith, few)) all (omega (arith, few))
    by (inr b) = begun (cases_lt (length front) 4)
      where
        begun : (length front < 4) ⊎ (4 ≤ length front) → FindsEnd (found.Whole (4 + n - length front)) front bytes
        begun (inl few) = given (4 + n - length front) (some few) (short few) (omega (arith, few)) all (omega (arith, few))
        begun (inr h) =
            let e = s ∙ same_front front bytes h in
            let a = b.some in
            let b' = b.short in
            let c = b.few in
            given (4 + n - length front) (omega (arith, e, a)) (omega (arith, e, b')) (omega (arith, e, c)) all (omega (arith, e, c))
