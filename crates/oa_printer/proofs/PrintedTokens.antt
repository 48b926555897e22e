-- The words of bytes that are put together from their front.
use Rattle.std.proofs.Common.{◌≡◌, ℕ, suc, ◌+◌, ◌-◌, ◌<◌, ◌≤◌, Bool, true, false, List, [], ◌∷◌, ◌++◌, length, take, drop, map, get_or}
use Rattle.std.proofs.Common.{refl, sym, ap, subst, ◌∙◌, arith, leb-true, leb-false}
use Rattle.std.specs.Prelude.{◌&&◌, ◌==◌, nat_lt, nat_le}
use Rattle.std.specs.Int.{is_in_range}
use Rattle.std.proofs.lemmas.List.{drop-drop}
use Rattle.std.proofs.lemmas.Bool.{eqb-true}
use Rattle.oa_tokens.specs.declared.lexer.TokenKind.{TokenKind}
use Rattle.oa_tokens.specs.declared.lexer.TokenKind.TheVariants as kinds
use Rattle.oa_tokens.specs.declared.lexer.Token.{Token}
use Rattle.oa_tokens.specs.declared.lexer.Piece.TheVariants.{Word, Gap}
use Rattle.oa_tokens.specs.declared.scan.Class.TheVariants as classes
use Rattle.oa_tokens.specs.promise.Bytes.{is_in, run, group, is_guid}
use Rattle.oa_tokens.specs.promise.Tokens.{front, token, AreTokens}
use Rattle.oa_tokens.specs.promise.Tokens.AreTokens.{End, Apart, Next}
use Rattle.oa_idl.specs.promise.Forms as forms
use Rattle.oa_idl.specs.promise.Words.{word_of}
use Rattle.oa_printer.specs.Printable.{IsNameText}

abbrev pub word : TokenKind → List ℕ → forms.Word
word kind text = record { kind = kind; text = text }

-- The words of bytes, at any offset.
pub data HasWords : List ℕ → List forms.Word → Type 0 where
  Nil : HasWords [] []
  Skip : (n : ℕ) (bs : List ℕ) (ws : List forms.Word) → 0 < length bs → front bs ≡ Gap n → HasWords (drop n bs) ws → HasWords bs ws
  Take : (n : ℕ) (kind : TokenKind) (bs : List ℕ) (ws : List forms.Word) → 0 < length bs → front bs ≡ Word kind n → HasWords (drop n bs) ws
      → HasWords bs (word kind (take n bs) ∷ ws)

-- their tokens from a place of a text on
pub record TokensAt (text : List ℕ) (p : ℕ) (bs : List ℕ) (ws : List forms.Word) : Type 0 where
  pub tokens : List Token
  pub are : AreTokens p bs tokens
  pub words : map (word_of text) tokens ≡ ws

pub tokens_at : (text : List ℕ) (p : ℕ) (bs : List ℕ) (ws : List forms.Word) → drop p text ≡ bs → HasWords bs ws → TokensAt text p bs ws
tokens_at text p _ _ at Nil = record { tokens = []; are = End p; words = refl }
tokens_at text p _ _ at (Skip n bs ws lt is h) =
    let r = tokens_at text (p + n) (drop n bs) ws (sym (drop-drop n p text) ∙ ap (drop n) at) h in
    record { tokens = r.tokens; are = Apart p n bs r.tokens lt is r.are; words = r.words }
tokens_at text p _ _ at (Take n kind bs ws lt is h) =
    let r = tokens_at text (p + n) (drop n bs) ws (sym (drop-drop n p text) ∙ ap (drop n) at) h in
    let size : p + n - p ≡ n = omega arith in
    record {
      tokens = token kind p (p + n) ∷ r.tokens;
      are = Next p n kind bs r.tokens lt is r.are;
      words = λ i. word kind (take (size i) (at i)) ∷ r.words i;
    }

-- ---- The first piece.

-- a byte that ends a name and a number
abbrev pub EndsWord : List ℕ → Type 0
EndsWord [] = ⊥
EndsWord (b ∷ bs) = (is_in classes.Named b ≡ false) × ((b == 45) ≡ false)

-- by a test
pub by_test : {P : Type 0} (b : Bool) → (b ≡ true → P) → (b ≡ false → P) → P
by_test true one other = one refl
by_test false one other = other refl

pub clash : {b : Bool} → b ≡ true → b ≡ false → ⊥
clash one other = let z : true ≡ false = sym one ∙ other in absurd cc

and_false : (a b : Bool) → (a ≡ true → b ≡ false) → (a && b) ≡ false
and_false true b h = h refl
and_false false b h = refl

-- A test of ranges, as an order of numbers.
in_range : (lo hi b : ℕ) → is_in_range lo hi b ≡ true → (lo ≤ b) × (b ≤ hi)
in_range lo hi b e = by_test (nat_le lo b)
    (λ (x : nat_le lo b ≡ true). by_test (nat_le b hi) (λ (y : nat_le b hi ≡ true). (leb-true lo b x, leb-true b hi y))
    (λ (y : nat_le b hi ≡ false). absurd (clash e (rw (x, y) refl))))
    (λ (x : nat_le lo b ≡ false). absurd (clash e (rw x refl)))

pub within : (lo hi b : ℕ) → lo ≤ b → b ≤ hi → is_in_range lo hi b ≡ true
within lo hi b x y = by_test (nat_le lo b)
    (λ (p : nat_le lo b ≡ true). by_test (nat_le b hi) (λ (q : nat_le b hi ≡ true). rw (p, q) refl)
    (λ (q : nat_le b hi ≡ false). absurd (omega (arith, y, leb-false b hi q))))
    (λ (p : nat_le lo b ≡ false). absurd (omega (arith, x, leb-false lo b p)))

pub outside : (lo hi b : ℕ) → ((lo ≤ b) → (b ≤ hi) → ⊥) → is_in_range lo hi b ≡ false
outside lo hi b h = by_test (is_in_range lo hi b) (λ (e : is_in_range lo hi b ≡ true). absurd (h (in_range lo hi b e).0 (in_range lo hi b e).1))
    (λ (e : is_in_range lo hi b ≡ false). e)

digit_named : (b : ℕ) → 48 ≤ b → b ≤ 57 → is_in classes.Named b ≡ true
unfolding is_in
digit_named b lo hi = rw (within 48 57 b lo hi) refl

hex_named : (b : ℕ) → is_in classes.Hexadecimal b ≡ true → is_in classes.Named b ≡ true
unfolding is_in
hex_named b e = by_test (is_in_range 48 57 b) (λ (x : is_in_range 48 57 b ≡ true). rw x refl)
    (λ (x : is_in_range 48 57 b ≡ false). by_test (is_in_range 65 70 b)
    (λ (y : is_in_range 65 70 b ≡ true). rw (x, within 65 90 b (in_range 65 70 b y).0 (omega (arith, (in_range 65 70 b y).1))) refl)
    (λ (y : is_in_range 65 70 b ≡ false). by_test (is_in_range 97 102 b)
    (λ (z : is_in_range 97 102 b ≡ true). rw
    (x, within 97 122 b (in_range 97 102 b z).0 (omega (arith, (in_range 97 102 b z).1)), outside 65 90 b (λ p q. omega (arith, q, (in_range 97 102 b z).0)))
    refl)
    (λ (z : is_in_range 97 102 b ≡ false). absurd (clash e (rw (x, y, z) refl)))))

pub is_not : (b n : ℕ) → (b ≡ n → ⊥) → (b == n) ≡ false
is_not b n h = by_test (b == n) (λ (e : (b == n) ≡ true). absurd (h (eqb-true b n e))) (λ (e : (b == n) ≡ false). e)

named_no_hyphen : (b : ℕ) → is_in classes.Named b ≡ true → (b == 45) ≡ false
unfolding is_in
named_no_hyphen b e = is_not b 45 (λ k. clash (subst (λ (c : ℕ). is_in classes.Named c ≡ true) k e) refl)

-- all bytes pass, then one does not
pub run_append : (p : ℕ → Bool) (xs : List ℕ) (b : ℕ) (bs : List ℕ) → run p xs ≡ length xs → p b ≡ false → run p (xs ++ b ∷ bs) ≡ length xs
unfolding run
run_append p [] b bs e stop = rw stop refl
run_append p (x ∷ xs) b bs e stop = by_test (p x)
    (λ (is : p x ≡ true). let one : run p (x ∷ xs) ≡ suc (run p xs) = rw is refl in rw is (ap suc (run_append p xs b bs (omega (arith, one, e)) stop)))
    (λ (is : p x ≡ false). let none : run p (x ∷ xs) ≡ 0 = rw is refl in absurd (omega (arith, none, e)))

-- ---- names and numbers are no GUIDs

-- No hyphen follows hexadecimal digits.
not_hyphen : (xs : List ℕ) (b : ℕ) (bs : List ℕ) → run (is_in classes.Named) xs ≡ length xs → EndsWord (b ∷ bs)
    → (get_or (xs ++ b ∷ bs) (run (is_in classes.Hexadecimal) (xs ++ b ∷ bs)) 0 == 45) ≡ false
unfolding run
not_hyphen [] b bs e ends = by_test (is_in classes.Hexadecimal b)
    (λ (is : is_in classes.Hexadecimal b ≡ true). absurd (clash (hex_named b is) ends.0))
    (λ (is : is_in classes.Hexadecimal b ≡ false). rw is ends.1)
not_hyphen (x ∷ xs) b bs e ends = by_test (is_in classes.Named x)
    (λ (named : is_in classes.Named x ≡ true).
    let one : run (is_in classes.Named) (x ∷ xs) ≡ suc (run (is_in classes.Named) xs) = rw named refl in
    by_test (is_in classes.Hexadecimal x)
    (λ (is : is_in classes.Hexadecimal x ≡ true). rw is (not_hyphen xs b bs (omega (arith, one, e)) ends))
    (λ (is : is_in classes.Hexadecimal x ≡ false). rw is (named_no_hyphen x named)))
    (λ (named : is_in classes.Named x ≡ false). let none : run (is_in classes.Named) (x ∷ xs) ≡ 0 = rw named refl in absurd (omega (arith, none, e)))

no_group : (bs : List ℕ) → (get_or bs (run (is_in classes.Hexadecimal) bs) 0 == 45) ≡ false → group 8 bs ≡ false
unfolding group
no_group bs h = and_false (run (is_in classes.Hexadecimal) bs == 8) (nat_lt 8 (length bs) && get_or bs 8 0 == 45)
    (λ is. and_false (nat_lt 8 (length bs)) (get_or bs 8 0 == 45)
    (λ _. subst (λ (n : ℕ). (get_or bs n 0 == 45) ≡ false) (eqb-true (run (is_in classes.Hexadecimal) bs) 8 is) h))

no_guid : (bs : List ℕ) → (get_or bs (run (is_in classes.Hexadecimal) bs) 0 == 45) ≡ false → is_guid bs ≡ false
unfolding is_guid
no_guid bs h = rw (no_group bs h) refl

-- ---- a name

letter_named : (b : ℕ) → is_in classes.Letter b ≡ true → is_in classes.Named b ≡ true
unfolding is_in
letter_named b e = by_test (is_in_range 65 90 b)
    (λ (x : is_in_range 65 90 b ≡ true). by_test (is_in_range 48 57 b) (λ (y : is_in_range 48 57 b ≡ true). rw (y) refl)
    (λ (y : is_in_range 48 57 b ≡ false). rw (y, x) refl))
    (λ (x : is_in_range 65 90 b ≡ false). by_test (is_in_range 97 122 b)
    (λ (y : is_in_range 97 122 b ≡ true). by_test (is_in_range 48 57 b) (λ (z : is_in_range 48 57 b ≡ true). rw z refl)
    (λ (z : is_in_range 48 57 b ≡ false). rw (z, x, y) refl))
    (λ (y : is_in_range 97 122 b ≡ false). by_test (is_in_range 48 57 b) (λ (z : is_in_range 48 57 b ≡ true). rw z refl) (λ (z : is_in_range 48 57 b ≡ false).
    by_test (b == 95) (λ (u : (b == 95) ≡ true). rw (z, x, y, u) refl) (λ (u : (b == 95) ≡ false). absurd (clash e (rw (x, y, u) refl))))))

name_run : (c : ℕ) (cs : List ℕ) → IsNameText (c ∷ cs) → run (is_in classes.Named) (c ∷ cs) ≡ length (c ∷ cs)
unfolding run
name_run c cs is = rw (letter_named c is.0) (ap suc is.1)

pub name_front : (c : ℕ) (cs : List ℕ) (b : ℕ) (bs : List ℕ) → IsNameText (c ∷ cs) → EndsWord (b ∷ bs)
    → front (c ∷ (cs ++ b ∷ bs)) ≡ Word kinds.Name (1 + length cs)
unfolding front
name_front c cs b bs is ends =
    rw (no_guid (c ∷ (cs ++ b ∷ bs)) (not_hyphen (c ∷ cs) b bs (name_run c cs is) ends), is.0)
    (ap (λ (n : ℕ). Word kinds.Name (1 + n)) (run_append (is_in classes.Named) cs b bs is.1 ends.0))

-- ---- a decimal number

-- each byte is a digit
abbrev pub AreDigits : List ℕ → Type 0
AreDigits [] = Unit {0}
AreDigits (d ∷ ds) = (48 ≤ d) × (d ≤ 57) × AreDigits ds

is_digit : (d : ℕ) → 48 ≤ d → d ≤ 57 → is_in classes.Digit d ≡ true
unfolding is_in
is_digit d lo hi = rw (within 48 57 d lo hi) refl

digits_run : (ds : List ℕ) → AreDigits ds → run (is_in classes.Digit) ds ≡ length ds
unfolding run
digits_run [] h = refl
digits_run (d ∷ ds) h = rw (is_digit d h.0 h.1) (ap suc (digits_run ds h.2))

digits_named : (ds : List ℕ) → AreDigits ds → run (is_in classes.Named) ds ≡ length ds
unfolding run
digits_named [] h = refl
digits_named (d ∷ ds) h = rw (digit_named d h.0 h.1) (ap suc (digits_named ds h.2))

no_letter : (d : ℕ) → 48 ≤ d → d ≤ 57 → is_in classes.Letter d ≡ false
unfolding is_in
no_letter d lo hi = rw (outside 65 90 d (λ p q. omega (arith, p, hi)), outside 97 122 d (λ p q. omega (arith, p, hi)), is_not d 95 (λ e. omega (arith, e, hi)))
    refl

named_no_x : (b : ℕ) → is_in classes.Named b ≡ false → (b == 120) ≡ false
unfolding is_in
named_no_x b e = is_not b 120 (λ k. clash refl (subst (λ (c : ℕ). is_in classes.Named c ≡ false) k e))

digit_is_named : (b : ℕ) → is_in classes.Digit b ≡ true → is_in classes.Named b ≡ true
unfolding is_in
digit_is_named b is = rw is refl

ends_no_digit : (b : ℕ) → is_in classes.Named b ≡ false → is_in classes.Digit b ≡ false
ends_no_digit b e = by_test (is_in classes.Digit b) (λ (is : is_in classes.Digit b ≡ true). absurd (clash (digit_is_named b is) e))
    (λ (is : is_in classes.Digit b ≡ false). is)

second_no_x : (ds : List ℕ) (b : ℕ) (bs : List ℕ) → AreDigits ds → EndsWord (b ∷ bs) → (get_or (ds ++ b ∷ bs) 0 0 == 120) ≡ false
second_no_x [] b bs h ends = named_no_x b ends.0
second_no_x (d ∷ ds) b bs h ends = is_not d 120 (λ e. omega (arith, e, h.1))

pub number_front : (d : ℕ) (ds : List ℕ) (b : ℕ) (bs : List ℕ) → AreDigits (d ∷ ds) → EndsWord (b ∷ bs)
    → front (d ∷ (ds ++ b ∷ bs)) ≡ Word kinds.Number (1 + length ds)
unfolding front
number_front d ds b bs h ends =
    rw (
      no_guid (d ∷ (ds ++ b ∷ bs)) (not_hyphen (d ∷ ds) b bs (digits_named (d ∷ ds) h) ends),
      no_letter d h.0 h.1,
      and_false (d == 48)
          (get_or (ds ++ b ∷ bs) 0 0 == 120) (λ _. second_no_x ds b bs h.2 ends),
      is_digit d h.0 h.1,
    )
    (ap (λ (n : ℕ). Word kinds.Number (1 + n)) (run_append (is_in classes.Digit) ds b bs (digits_run ds h.2) (ends_no_digit b ends.0)))
