-- A window: a slice receives the bytes of a stream from a place on, as far as they fit.
use Rattle.std.proofs.Common.{◌≡◌, ℕ, zero, suc, ◌+◌, ◌-◌, List, [], ◌∷◌, ◌++◌, length, take, drop, refl, sym, ◌∙◌, ap}
use Rattle.std.proofs.Common.{append_assoc, arith, length-append, length-drop}
use Rattle.std.proofs.lemmas.List.{drop-drop}
use Rattle.std.proofs.Math.Seq.{drop-nil, take-nil}
use Rattle.oa_formats.specs.declared.window.OutputCursor.{OutputCursor}

-- the bytes of a slice before the next byte and from it on, the place of that byte, and how many bytes are still to
-- be dropped
pub record Showing : Type 0 where
  pub front : List ℕ
  pub room : List ℕ
  pub at : ℕ
  pub skip : ℕ

-- the window after these bytes
unfoldable pub added : Showing → List ℕ → Showing
added s bytes = record {
  front = s.front ++ take (length s.room) (drop s.skip bytes);
  room = drop (length (drop s.skip bytes)) s.room;
  at = s.at + length (take (length s.room) (drop s.skip bytes));
  skip = s.skip - length bytes;
}

-- a window on a slice
abbrev pub showing : OutputCursor → List ℕ → Showing
showing w out = record { front = take w.at out; room = drop w.at out; at = w.at; skip = w.skip }

-- between two states these bytes were written
abbrev pub Adds : List ℕ → OutputCursor → OutputCursor → List ℕ → List ℕ → Type 0
Adds bytes old new before after = showing new after ≡ added (showing old before) bytes

less_none : (n : ℕ) → n - 0 ≡ n
less_none n = omega arith

pub drop_both : (n : ℕ) (xs ys : List ℕ) → drop n (xs ++ ys) ≡ drop n xs ++ drop (n - length xs) ys
drop_both n [] ys = rw (drop-nil {A = ℕ} n, less_none n) refl
drop_both zero (x ∷ xs) ys = let none : 0 - length (x ∷ xs) ≡ 0 = omega arith in rw none refl
drop_both (suc n) (x ∷ xs) ys =
    let same : suc n - length (x ∷ xs) ≡ n - length xs = omega arith in rw same (drop_both n xs ys)

pub take_both : (n : ℕ) (xs ys : List ℕ) → take n (xs ++ ys) ≡ take n xs ++ take (n - length xs) ys
take_both n [] ys = rw (take-nil {A = ℕ} n, less_none n) refl
take_both zero (x ∷ xs) ys = let none : 0 - length (x ∷ xs) ≡ 0 = omega arith in rw none refl
take_both (suc n) (x ∷ xs) ys =
    let same : suc n - length (x ∷ xs) ≡ n - length xs = omega arith in
    rw same (ap (λ (l : List ℕ). x ∷ l) (take_both n xs ys))

abbrev parts : List ℕ → List ℕ → ℕ → ℕ → Showing
parts front room at skip = record { front = front; room = room; at = at; skip = skip }

pub same_parts : (f g r s : List ℕ) (a b m n : ℕ) → f ≡ g → r ≡ s → a ≡ b → m ≡ n → parts f r a m ≡ parts g s b n
same_parts f g r s a b m n front room at skip = rw (front, room, at, skip) refl

-- writing two lists of bytes is writing their concatenation
pub added_added : (s : Showing) (xs ys : List ℕ) → added (added s xs) ys ≡ added s (xs ++ ys)
unfolding added
added_added s xs ys =
    let one = drop s.skip xs in
    let two = drop (s.skip - length xs) ys in
    let both : drop s.skip (xs ++ ys) ≡ one ++ two = drop_both s.skip xs ys in
    let few : length (drop (length one) s.room) ≡ length s.room - length one = length-drop (length one) s.room in
    let long : length (drop s.skip (xs ++ ys)) ≡ length one + length two = ap length both ∙ length-append one two in
    let front = take_both (length s.room) one two in
    same_parts _ _ _ _ _ _ _ _
    (rw (few, both, front) (append_assoc s.front (take (length s.room) one) (take (length s.room - length one) two)))
    (drop-drop (length two) (length one) s.room ∙ ap (λ (n : ℕ). drop n s.room) (sym long))
    (rw (few, both, front)
    (omega (arith, length-append (take (length s.room) one) (take (length s.room - length one) two))))
    (omega (arith, length-append xs ys))
