-- Bytes are split in one way.
use Rattle.std.proofs.Common.{◌≡◌, ◌≢◌, ℕ, List, [], ◌∷◌, ◌++◌, length, drop, get_or, refl, sym, ap, ◌∙◌, inl, inr, arith}
use Rattle.std.specs.List.{AllByRecursion}
use Rattle.std.proofs.lemmas.List.Elements.{recursion_from_All}
use Rattle.oa_frame.specs.promise.Lines.{HasNoLineFeed, without_return, FirstLine}

abbrev pub IsFreeTo : List ℕ → Type 0
IsFreeTo bytes = AllByRecursion (λ b. b ≢ 10) bytes

first_same : (x y : ℕ) (xs ys : List ℕ) → x ∷ xs ≡ y ∷ ys → x ≡ y
first_same x y xs ys e = ap (λ (l : List ℕ). get_or l 0 0) e

rest_same : (x y : ℕ) (xs ys : List ℕ) → x ∷ xs ≡ y ∷ ys → xs ≡ ys
rest_same x y xs ys e = ap (λ (l : List ℕ). drop 1 l) e

-- the line feed that ends two free stretches of one list is the same
same_end : (xs ys r s : List ℕ) → IsFreeTo xs → IsFreeTo ys → xs ++ 10 ∷ r ≡ ys ++ 10 ∷ s → (xs ≡ ys) × (r ≡ s)
same_end [] [] r s f g e = (refl, rest_same 10 10 r s e)
same_end [] (y ∷ ys) r s f g e = absurd (g.0 (sym (first_same 10 y r (ys ++ 10 ∷ s) e)))
same_end (x ∷ xs) [] r s f g e = absurd (f.0 (first_same x 10 (xs ++ 10 ∷ r) s e))
same_end (x ∷ xs) (y ∷ ys) r s f g e =
    let more = same_end xs ys r s f.1 g.1 (rest_same x y (xs ++ 10 ∷ r) (ys ++ 10 ∷ s) e) in
    (rw (first_same x y (xs ++ 10 ∷ r) (ys ++ 10 ∷ s) e, more.0) refl, more.1)

-- a free list has no line feed
pub no_end : (xs ys r : List ℕ) → IsFreeTo ys → xs ++ 10 ∷ r ≡ ys → ⊥
no_end [] [] r g e = let n = ap (λ (l : List ℕ). length l) e in omega (arith, n)
no_end [] (y ∷ ys) r g e = g.0 (sym (first_same 10 y r ys e))
no_end (x ∷ xs) [] r g e = let n = ap (λ (l : List ℕ). length l) e in omega (arith, n)
no_end (x ∷ xs) (y ∷ ys) r g e = no_end xs ys r g.1 (rest_same x y (xs ++ 10 ∷ r) ys e)

free_to : (bytes : List ℕ) → HasNoLineFeed bytes → IsFreeTo bytes
free_to bytes f = recursion_from_All (λ b. b ≢ 10) bytes f

pub one_line : (bytes line line' rest rest' : List ℕ) → FirstLine bytes line rest → FirstLine bytes line' rest' → (line ≡ line') × (rest ≡ rest')
one_line bytes line line' rest rest' (inl a) (inl b) =
    let same = same_end a.raw b.raw rest rest' (free_to a.raw a.free) (free_to b.raw b.free) (sym a.whole ∙ b.whole) in
    (a.text ∙ ap without_return same.0 ∙ sym b.text, same.1)
one_line bytes line line' rest rest' (inl a) (inr b) = absurd (no_end a.raw line' rest (free_to line' b.free) (sym a.whole ∙ b.whole))
one_line bytes line line' rest rest' (inr a) (inl b) = absurd (no_end b.raw line rest' (free_to line a.free) (sym b.whole ∙ a.whole))
one_line bytes line line' rest rest' (inr a) (inr b) = (sym a.whole ∙ b.whole, a.nothing ∙ sym b.nothing)
