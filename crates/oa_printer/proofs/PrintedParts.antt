-- The parts of a printed text that are one word each: numbers, GUIDs and strings.
use Rattle.std.proofs.Common.{◌≡◌, ℕ, suc, ◌+◌, ◌-◌, ◌*◌, ◌^◌, ◌<◌, ◌≤◌, Bool, true, false, List, [], ◌∷◌, ◌++◌, length, map, Some, refl}
use Rattle.std.proofs.Common.{sym, ap, subst, ◌∙◌, arith, ltb-true, ltb-false, leb-false}
use Rattle.std.specs.Prelude.{◌&&◌, ◌==◌, nat_lt, nat_le}
use Rattle.std.specs.List.{AllByRecursion, flat_map}
use Rattle.std.specs.Fmt.{decimal}
use Rattle.std.specs.Str.Parse.{AllDigits, digits_value_after, digits_value}
use Rattle.std.proofs.lemmas.Fmt.{decimal_is_IsNumeral_wide}
use Rattle.std.proofs.lemmas.Str.Parse.{digit_from_value}
use Rattle.std.proofs.lemmas.Str.{digit_value_digit}
use Rattle.std.specs.Char.{digit_value}
use Rattle.uuid.specs.Text.{lower, nibble, hex_digit, by_index}
use Rattle.uuid.proofs.TextLemmas.{nibble_small}
use Rattle.oa_tokens.specs.declared.lexer.TokenKind.TheVariants as kinds
use Rattle.oa_tokens.specs.declared.lexer.Piece.TheVariants.{Word}
use Rattle.oa_tokens.specs.declared.scan.Class.TheVariants as classes
use Rattle.oa_tokens.specs.declared.scan.Close.TheVariants.{Quote}
use Rattle.oa_tokens.specs.promise.Bytes.{is_in, run, end_from, group, is_guid}
use Rattle.oa_tokens.specs.promise.Tokens.{front}
use Rattle.oa_idl.specs.promise.Words.{digit_of, number_from, is_hexadecimal, value_of, number_of, is_printable}
use Rattle.oa_idl.specs.promise.Words.{is_escaped, characters_from}
use Rattle.oa_printer.specs.promise.Canonical.{character_text, digits_text}
use Rattle.oa_printer.proofs.PrintedTokens.{by_test, clash, is_not, within, outside, AreDigits}

-- ---- numbers

are_digits : (ds : List ℕ) → AllDigits 10 ds → AreDigits ds
are_digits [] h = tt
are_digits (d ∷ ds) h = let r = digit_from_value d h.0 in (r.0, r.1, are_digits ds h.1)

pub record IsNumber (n : ℕ) (ds : List ℕ) : Type 0 where
  pub some : 0 < length ds
  pub digits : AreDigits ds
  pub value : digits_value 10 ds ≡ n

pub decimal_is : (n : ℕ) → n < 2 ^ 96 → IsNumber n (decimal n)
decimal_is n small = let h = decimal_is_IsNumeral_wide n (omega (arith, small)) in record { some = h.0.0; digits = are_digits (decimal n) h.0.1; value = h.1 }

digit_of_is : (d : ℕ) → 48 ≤ d → d ≤ 57 → digit_of d ≡ digit_value d
digit_of_is d lo hi = by_test (nat_le d 57) (λ (e : nat_le d 57 ≡ true). rw e (omega (arith, digit_value_digit d (lo, hi))))
    (λ (e : nat_le d 57 ≡ false). absurd (omega (arith, hi, leb-false d 57 e)))

number_after : (n : ℕ) (ds : List ℕ) → AreDigits ds → number_from 10 n ds ≡ digits_value_after 10 n ds
unfolding number_from
number_after n [] h = refl
number_after n (d ∷ ds) h = ap (λ (k : ℕ). number_from 10 k ds) (omega (arith, digit_of_is d h.0 h.1)) ∙ number_after (n * 10 + digit_value d) ds h.2

no_hexadecimal : (ds : List ℕ) → AreDigits ds → is_hexadecimal ds ≡ false
no_hexadecimal [] h = refl
no_hexadecimal (d ∷ []) h = by_test (d == 48) (λ (e : (d == 48) ≡ true). rw e refl) (λ (e : (d == 48) ≡ false). rw e refl)
no_hexadecimal (d ∷ c ∷ ds) h = by_test (d == 48) (λ (e : (d == 48) ≡ true). rw e (is_not c 120 (λ k. omega (arith, k, h.2.1))))
    (λ (e : (d == 48) ≡ false). rw e refl)

pub number_is : (n : ℕ) (ds : List ℕ) → n < 2 ^ 96 → IsNumber n ds → (is_hexadecimal ds ≡ false) × (number_of ds ≡ Some n)
unfolding number_of
number_is n ds small h =
    let decimal : is_hexadecimal ds ≡ false = no_hexadecimal ds h.digits in
    let value : value_of ds ≡ n = rw decimal (number_after 0 ds h.digits ∙ h.value) in (
      decimal,
      by_test (nat_lt n (2 ^ 96)) (λ (e : nat_lt n (2 ^ 96) ≡ true). rw (value, e) refl)
          (λ (e : nat_lt n (2 ^ 96) ≡ false). absurd (omega (arith, small, ltb-false n (2 ^ 96) e))),
    )

-- ---- GUIDs

abbrev pub digits_at : List ℕ → List ℕ → List ℕ
digits_at g ks = map (λ k. hex_digit lower (nibble g k)) ks

hex_digit_is : (d : ℕ) → d < 16 → is_in classes.Hexadecimal (hex_digit lower d) ≡ true
unfolding is_in
hex_digit_is d small = by_test (nat_lt d 10)
    (λ (e : nat_lt d 10 ≡ true). rw (e, within 48 57 (48 + d) (omega arith) (omega (arith, ltb-true d 10 e))) refl)
    (λ (e : nat_lt d 10 ≡ false). let ge = ltb-false d 10 e in
    rw (
      e,
      within 97 102 (97 + d - 10) (omega (arith, ge)) (omega (arith, ge, small)),
      outside 48 57 (97 + d - 10) (λ p q. omega (arith, ge, q)),
      outside 65 70
          (97 + d - 10) (λ p q. omega (arith, ge, q)),
    ) refl)

digits_hex : (g ks : List ℕ) (b : ℕ) (bs : List ℕ) → is_in classes.Hexadecimal b ≡ false
    → run (is_in classes.Hexadecimal) (digits_at g ks ++ b ∷ bs) ≡ length ks
unfolding run
digits_hex g [] b bs stop = rw stop refl
digits_hex g (k ∷ ks) b bs stop = rw (hex_digit_is (nibble g k) (nibble_small g k)) (ap suc (digits_hex g ks b bs stop))

hyphen_stops : is_in classes.Hexadecimal 45 ≡ false
unfolding is_in
hyphen_stops = refl

all_three : {a b c : Bool} → a ≡ true → b ≡ true → c ≡ true → (a && (b && c)) ≡ true
all_three x y z = rw (x, y, z) refl

less : (a b : ℕ) → a < b → nat_lt a b ≡ true
less a b lt = by_test (nat_lt a b) (λ (e : nat_lt a b ≡ true). e) (λ (e : nat_lt a b ≡ false). absurd (omega (arith, lt, ltb-false a b e)))

equal_8 : (n : ℕ) → n ≡ 8 → (n == 8) ≡ true
equal_8 n e = rw e refl

equal_4 : (n : ℕ) → n ≡ 4 → (n == 4) ≡ true
equal_4 n e = rw e refl

group_8 : (g : List ℕ) (a b c d e f i j : ℕ) (bs : List ℕ) → group 8 (digits_at g (a ∷ b ∷ c ∷ d ∷ e ∷ f ∷ i ∷ j ∷ []) ++ 45 ∷ bs) ≡ true
unfolding group
group_8 g a b c d e f i j bs = all_three (equal_8 _ (digits_hex g (a ∷ b ∷ c ∷ d ∷ e ∷ f ∷ i ∷ j ∷ []) 45 bs hyphen_stops))
    (less 8 (length (digits_at g (a ∷ b ∷ c ∷ d ∷ e ∷ f ∷ i ∷ j ∷ []) ++ 45 ∷ bs)) (omega arith)) refl

group_4 : (g : List ℕ) (a b c d : ℕ) (bs : List ℕ) → group 4 (digits_at g (a ∷ b ∷ c ∷ d ∷ []) ++ 45 ∷ bs) ≡ true
unfolding group
group_4 g a b c d bs = all_three (equal_4 _ (digits_hex g (a ∷ b ∷ c ∷ d ∷ []) 45 bs hyphen_stops))
    (less 4 (length (digits_at g (a ∷ b ∷ c ∷ d ∷ []) ++ 45 ∷ bs)) (omega arith)) refl

abbrev first_digits : List ℕ
first_digits = 0 ∷ 1 ∷ 2 ∷ 3 ∷ 4 ∷ 5 ∷ 6 ∷ 7 ∷ []

abbrev last_digits : List ℕ
last_digits = 20 ∷ 21 ∷ 22 ∷ 23 ∷ 24 ∷ 25 ∷ 26 ∷ 27 ∷ 28 ∷ 29 ∷ 30 ∷ 31 ∷ []

-- the groups of a printed GUID
printed_guid : (g bs : List ℕ)
    → digits_text g ++ bs ≡ digits_at g first_digits ++ 45
    ∷ (digits_at g (8 ∷ 9 ∷ 10 ∷ 11 ∷ []) ++ 45
    ∷ (digits_at g (12 ∷ 13 ∷ 14 ∷ 15 ∷ []) ++ 45 ∷ (digits_at g (16 ∷ 17 ∷ 18 ∷ 19 ∷ []) ++ 45 ∷ (digits_at g last_digits ++ bs))))
unfolding digits_text by_index
printed_guid g bs = refl

all_five : {a b c d e : Bool} → a ≡ true → b ≡ true → c ≡ true → d ≡ true → e ≡ true → (a && (b && (c && (d && e)))) ≡ true
all_five x y z u v = rw (x, y, z, u, v) refl

twelve : (n : ℕ) → n ≡ 12 → nat_le 12 n ≡ true
twelve n e = rw e refl

printed_is_guid : (g : List ℕ) (b : ℕ) (bs : List ℕ) → is_in classes.Hexadecimal b ≡ false → is_guid (digits_text g ++ b ∷ bs) ≡ true
unfolding is_guid
printed_is_guid g b bs stop = subst (λ (xs : List ℕ). is_guid xs ≡ true) (sym (printed_guid g (b ∷ bs)))
    (all_five (group_8 g 0 1 2 3 4 5 6 7 (digits_at g (8 ∷ 9 ∷ 10 ∷ 11 ∷ []) ++ 45
    ∷ (digits_at g (12 ∷ 13 ∷ 14 ∷ 15 ∷ []) ++ 45 ∷ (digits_at g (16 ∷ 17 ∷ 18 ∷ 19 ∷ []) ++ 45 ∷ (digits_at g last_digits ++ b ∷ bs)))))
    (group_4 g 8 9 10 11 (digits_at g (12 ∷ 13 ∷ 14 ∷ 15 ∷ []) ++ 45 ∷ (digits_at g (16 ∷ 17 ∷ 18 ∷ 19 ∷ []) ++ 45 ∷ (digits_at g last_digits ++ b ∷ bs))))
    (group_4 g 12 13 14 15 (digits_at g (16 ∷ 17 ∷ 18 ∷ 19 ∷ []) ++ 45 ∷ (digits_at g last_digits ++ b ∷ bs)))
    (group_4 g 16 17 18 19 (digits_at g last_digits ++ b ∷ bs))
    (twelve _ (digits_hex g last_digits b bs stop)))

pub guid_front : (g : List ℕ) (b : ℕ) (bs : List ℕ) → is_in classes.Hexadecimal b ≡ false
    → front (digits_text g ++ b ∷ bs) ≡ Word kinds.Guid 36
unfolding front
guid_front g b bs stop = rw (printed_is_guid g b bs stop) refl

-- ---- strings

no_quote : (b : ℕ) → is_escaped b ≡ false → ((b == 34) ≡ false) × ((b == 92) ≡ false)
no_quote b e = by_test (b == 34) (λ (x : (b == 34) ≡ true). absurd (clash (rw x refl) e)) (λ (x : (b == 34) ≡ false).
    by_test (b == 92) (λ (y : (b == 92) ≡ true). absurd (clash (rw (x, y) refl) e)) (λ (y : (b == 92) ≡ false). (x, y)))

-- The end of a printed string.
string_end : (cs bs : List ℕ)
    → end_from Quote false (flat_map character_text cs ++ 34 ∷ bs) ≡ Some (suc (length (flat_map character_text cs)))
unfolding end_from character_text
string_end [] bs = refl
string_end (c ∷ cs) bs = by_test (is_escaped c)
    (λ (e : is_escaped c ≡ true). rw (e, string_end cs bs) refl)
    (λ (e : is_escaped c ≡ false). rw (e, (no_quote c e).0, (no_quote c e).1, string_end cs bs) refl)

pub string_front : (cs bs : List ℕ)
    → front (34 ∷ (flat_map character_text cs ++ 34 ∷ bs)) ≡ Word kinds.Text (1 + suc (length (flat_map character_text cs)))
unfolding front is_guid group run is_in
string_front cs bs = rw (string_end cs bs) refl

-- and its characters
pub string_value : (cs : List ℕ) → AllByRecursion (λ b. is_printable b ≡ true) cs
    → characters_from false (flat_map character_text cs ++ 34 ∷ []) ≡ Some cs
unfolding characters_from character_text
string_value [] h = refl
string_value (c ∷ cs) h = by_test (is_escaped c)
    (λ (e : is_escaped c ≡ true). rw (e, string_value cs h.1) (rw e refl))
    (λ (e : is_escaped c ≡ false). rw (e, (no_quote c e).0, (no_quote c e).1, h.0, string_value cs h.1) refl)
