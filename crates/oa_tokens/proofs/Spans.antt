-- The tokens of bytes lie in order inside them.
use Rattle.std.proofs.Common.{◌≡◌, ℕ, suc, ◌+◌, ◌<◌, ◌≤◌, Bool, true, false, List, [], ◌∷◌, length, drop, get_or, Option, Some, None, refl}
use Rattle.std.proofs.Common.{sym, subst, ◌∙◌, arith}
use Rattle.std.specs.Prelude.{if◌then◌else◌, ◌&&◌, ◌==◌, nat_le}
use Rattle.std.proofs.lemmas.Bool.{and_parts, leb-true}
use Rattle.std.proofs.lemmas.List.{length-drop}
use Rattle.oa_tokens.specs.declared.scan.Class.TheVariants.{Digit, Hexadecimal, Letter, Named, Blank, Line}
use Rattle.oa_tokens.specs.declared.scan.Class.TheVariants as classes
use Rattle.oa_tokens.specs.declared.scan.Close.{Close}
use Rattle.oa_tokens.specs.declared.scan.Close.TheVariants.{Quote, Comment}
use Rattle.oa_tokens.specs.declared.lexer.TokenKind.TheVariants as kinds
use Rattle.oa_tokens.specs.declared.lexer.Token.{Token}
use Rattle.oa_tokens.specs.declared.lexer.Piece.{Piece}
use Rattle.oa_tokens.specs.declared.lexer.Piece.TheVariants.{Word, Gap}
use Rattle.oa_tokens.specs.promise.Bytes.{is_in, run, end_from, incremented, closes, marks, group, is_guid}
use Rattle.oa_tokens.specs.Bytes.{EndsInside}
use Rattle.oa_tokens.specs.promise.Tokens.{closed, front, AreTokens}
use Rattle.oa_tokens.specs.Tokens.{IsPiece, AreInOrder}
use Rattle.oa_tokens.specs.promise.Tokens.AreTokens.{End, Apart, Next, Rest}

-- ---- The first piece is inside the bytes.

run_within : (p : ℕ → Bool) (bs : List ℕ) → run p bs ≤ length bs
unfolding run
run_within p [] = omega arith
run_within p (b ∷ bs) = by_test (p b) (run p bs) (length bs) (run_within p bs)
  where
    by_test : (is : Bool) (n m : ℕ) → n ≤ m → (if is then suc n else 0) ≤ suc m
    by_test true n m le = omega (arith, le)
    by_test false n m le = omega arith

end_within : (close : Close) (marked : Bool) (bs : List ℕ) → EndsInside (end_from close marked bs) (length bs)
unfolding end_from
end_within close marked [] = tt
end_within close marked (b ∷ bs) = by_test (closes close marked b) (end_from close (marks close marked b) bs) (length bs)
    (end_within close (marks close marked b) bs)
  where
    by_test : (is : Bool) (o : Option ℕ) (m : ℕ) → EndsInside o m → EndsInside (if is then Some 1 else incremented o) (suc m)
    by_test true o m le = omega arith
    by_test false None m le = tt
    by_test false (Some n) m le = omega (arith, le)

past : (n k : ℕ) (bs : List ℕ) → n ≤ length bs → k ≤ length (drop n bs) → n + k ≤ length bs
past n k bs some le = omega (arith, some, le, length-drop n bs)

run_past : (n : ℕ) (p : ℕ → Bool) (bs : List ℕ) → n ≤ length bs → n + run p (drop n bs) ≤ length bs
run_past n p bs some = past n (run p (drop n bs)) bs some (run_within p (drop n bs))

-- a second byte that is no zero is there
second : (b : ℕ) (bs : List ℕ) → (0 == b) ≡ false → (get_or bs 1 0 == b) ≡ true → 2 ≤ length bs
second b [] none is = let z = sym none ∙ is in absurd cc
second b (x ∷ []) none is = let z = sym none ∙ is in absurd cc
second b (x ∷ y ∷ bs) none is = omega arith

guid_within : (bs : List ℕ) → is_guid bs ≡ true → 36 ≤ length bs
unfolding is_guid
guid_within bs is =
    let last = nat_le 12 (run (is_in Hexadecimal) (drop 24 bs)) in
    let fourth = group 4 (drop 19 bs) in
    let third = group 4 (drop 14 bs) in
    let more = and_parts (group 8 bs) (group 4 (drop 9 bs) && (third && (fourth && last))) is in
    let digits = and_parts fourth last (and_parts third (fourth && last) (and_parts (group 4 (drop 9 bs)) (third && (fourth && last)) more.1).1).1 in
    omega (arith, leb-true 12 (run (is_in Hexadecimal) (drop 24 bs)) digits.1, run_within (is_in Hexadecimal) (drop 24 bs), length-drop 24 bs)

by_case : (b : Bool) (x y : Piece) (n : ℕ) → (b ≡ true → IsPiece x n) → (b ≡ false → IsPiece y n) → IsPiece (if b then x else y) n
by_case true x y n f g = f refl
by_case false x y n f g = g refl

text_within : (n : ℕ) (o : Option ℕ) (bs : List ℕ) → 0 < n → n ≤ length bs → EndsInside o (length (drop n bs))
    → IsPiece (closed (Word kinds.Text) n o) (length bs)
text_within n None bs lt some le = tt
text_within n (Some k) bs lt some le = (omega (arith, lt), past n k bs some le)

gap_within : (n : ℕ) (o : Option ℕ) (bs : List ℕ) → 0 < n → n ≤ length bs → EndsInside o (length (drop n bs))
    → IsPiece (closed Gap n o) (length bs)
gap_within n None bs lt some le = tt
gap_within n (Some k) bs lt some le = (omega (arith, lt), past n k bs some le)

is_piece : (bs : List ℕ) → 0 < length bs → IsPiece (front bs) (length bs)
unfolding front
is_piece bs lt =
    let some : 1 ≤ length bs = omega (arith, lt) in
    by_case (is_guid bs) _ _ (length bs) (λ is. (omega arith, guid_within bs is)) (λ _.
    by_case (is_in Letter (get_or bs 0 0)) _ _ (length bs) (λ _. (omega arith, run_past 1 (is_in Named) bs some)) (λ _.
    by_case (get_or bs 0 0 == 48 && get_or bs 1 0 == 120) _ _ (length bs)
    (λ is. by_case (run (is_in Hexadecimal) (drop 2 bs) == 0) _ _ (length bs) (λ _. (omega arith, some))
    (λ _. (omega arith, run_past 2 (is_in Hexadecimal) bs (second 120 bs refl (and_parts _ _ is).1)))) (λ _.
    by_case (is_in Digit (get_or bs 0 0)) _ _ (length bs) (λ _. (omega arith, run_past 1 (is_in Digit) bs some)) (λ _.
    by_case (get_or bs 0 0 == 34) _ _ (length bs)
    (λ _. text_within 1 (end_from Quote false (drop 1 bs)) bs (omega arith) some (end_within Quote false (drop 1 bs))) (λ _.
    by_case (is_in classes.Mark (get_or bs 0 0)) _ _ (length bs) (λ _. (omega arith, some)) (λ _.
    by_case (is_in Blank (get_or bs 0 0)) _ _ (length bs) (λ _. (omega arith, some)) (λ _.
    by_case (get_or bs 0 0 == 47 && get_or bs 1 0 == 47) _ _ (length bs)
    (λ is. (omega arith, run_past 2 (is_in Line) bs (second 47 bs refl (and_parts _ _ is).1))) (λ _.
    by_case (get_or bs 0 0 == 47 && get_or bs 1 0 == 42) _ _ (length bs)
    (λ is. gap_within 2 (end_from Comment false (drop 2 bs)) bs (omega arith) (second 42 bs refl (and_parts _ _ is).1) (end_within Comment false (drop 2 bs)))
    (λ _. tt)))))))))

-- ---- all of them

earlier : (p q end : ℕ) (ts : List Token) → p ≤ q → AreInOrder q end ts → AreInOrder p end ts
earlier p q end [] le h = omega (arith, le, h)
earlier p q end (t ∷ ts) le h = (omega (arith, le, h.0), h.1, h.2)

-- The tokens after n bytes.
behind : (p n : ℕ) (bs : List ℕ) (ts : List Token) → n ≤ length bs → AreInOrder (p + n) (p + n + length (drop n bs)) ts
    → AreInOrder (p + n) (p + length bs) ts
behind p n bs ts le h = subst (λ (end : ℕ). AreInOrder (p + n) end ts) (omega (arith, le, length-drop n bs)) h

pub in_order : (p : ℕ) (bs : List ℕ) (ts : List Token) → AreTokens p bs ts → AreInOrder p (p + length bs) ts
in_order _ _ _ (End p) = omega arith
in_order _ _ _ (Apart p n bs ts lt is h) =
    let piece = subst (λ (x : Piece). IsPiece x (length bs)) is (is_piece bs lt) in
    earlier p (p + n) (p + length bs) ts (omega arith) (behind p n bs ts piece.1 (in_order (p + n) (drop n bs) ts h))
in_order _ _ _ (Next p n kind bs ts lt is h) =
    let piece = subst (λ (x : Piece). IsPiece x (length bs)) is (is_piece bs lt) in
    (omega arith, omega (arith, piece.0), behind p n bs ts piece.1 (in_order (p + n) (drop n bs) ts h))
in_order _ _ _ (Rest p bs lt is) = (omega arith, omega (arith, lt), omega arith)
