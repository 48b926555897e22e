-- A batch as it is written.
use Rattle.std.proofs.Common.{◌≡◌, ℕ, suc, ◌+◌, ◌-◌, ◌<◌, List, [], ◌∷◌, ◌++◌, length, take, drop, sym, ◌∙◌, ap, arith, length-drop}
use Rattle.std.proofs.Common.{length-append}
use Rattle.std.proofs.Math.ListN.{set}
use Rattle.std.proofs.Math.Seq.{take-append_seam}
use Rattle.std.proofs.lemmas.List.{set-append_right, set_split, drop_all, length-take-le}
use Rattle.std.specs.Int.{to_le_bytes, w32}
use Rattle.oa_journal.specs.Append.{group_of, sealed}

pub length-group_of : (batch : List ℕ) → 5 < length batch → length (group_of batch) ≡ length batch - 5
length-group_of batch some = length-take-le (length batch - 5) (drop 4 batch) (omega (arith, length-drop 4 batch))

pub length-sealed : (group : List ℕ) → length (sealed group) ≡ 5 + length group
length-sealed group = omega (arith, length-append group (0 ∷ []))

-- its group is the one that was sealed
pub group-sealed : (group : List ℕ) → group_of (sealed group) ≡ group
group-sealed group =
    let count : length (sealed group) - 5 ≡ length group = omega (arith, length-sealed group) in
    ap (λ (n : ℕ). take n (group ++ 0 ∷ [])) count ∙ take-append_seam group (0 ∷ [])

-- the last of n + 1 bytes is made a 0
last_closed : (tail : List ℕ) (n : ℕ) → length tail ≡ suc n → set tail n 0 ≡ take n tail ++ 0 ∷ []
last_closed tail n is = set_split tail n 0 (omega arith) ∙ ap (λ (l : List ℕ). take n tail ++ 0 ∷ l) (drop_all (suc n) tail (omega arith))

pub sealing : (batch le : List ℕ) → 5 < length batch → le ≡ to_le_bytes w32 (length batch - 5)
    → set (le ++ drop 4 batch) (length batch - 5 + 4) 0 ≡ sealed (group_of batch)
sealing batch le some is =
    let four : length le ≡ 4 = ap length is in
    let at_tail : length batch - 5 + 4 - 4 ≡ length batch - 5 = omega arith in
    set-append_right le (drop 4 batch) 4 (length batch - 5 + 4) 0 four (omega arith)
    ∙ ap (λ (k : ℕ). le ++ set (drop 4 batch) k 0) at_tail
    ∙ ap (λ (l : List ℕ). le ++ l) (last_closed (drop 4 batch) (length batch - 5) (omega (arith, length-drop 4 batch)))
    ∙ ap (λ (l : List ℕ). l ++ (group_of batch ++ 0 ∷ [])) (is ∙ ap (λ (k : ℕ). to_le_bytes w32 k) (sym (length-group_of batch some)))
