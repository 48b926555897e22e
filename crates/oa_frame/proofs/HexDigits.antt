-- Bytes as digits, part by part.
use Rattle.std.proofs.Common.{◌≡◌, ℕ, ◌+◌, ◌-◌, ◌*◌, ◌/◌, ◌%◌, ◌<◌, ◌≤◌, ◌&&◌, ◌==◌, ◌⊎◌, zero, suc, inl, inr, Bool, true, false, List, [], ◌∷◌}
use Rattle.std.proofs.Common.{◌++◌, get_or, length, map, take, drop, slice_index, slice_set, Some, None, Result, Ok, Err, refl, sym, ap, ◌∙◌, subst}
use Rattle.std.proofs.Common.{append_assoc}
use Rattle.std.proofs.Common.{arith, cond, leb, eqb, replicate, w8, Option, ◌^◌, ◌≢◌}
use Rattle.std.proofs.lemmas.Simd.{mask_l-mod, tops_compared, zip2_splat_left}
use Rattle.std.specs.Simd.Lanes.{mask_l, top, zip2}
use Rattle.std.specs.Prelude.{IfSome, IsErr, IsNone}
use Rattle.std.proofs.lemmas.List.{get_or_append_left, length-map, set-get_or}
use Rattle.std.proofs.lemmas.List.FromFn.{get_or-map-range_with_len}
use Rattle.std.specs.List.{range_with_len}
use Rattle.std.proofs.lemmas.Bool.{and_parts, cases_lt, eqb-false, eqb-true, false≢true, leb-false, leb-true}
use Rattle.std.proofs.lemmas.List.{append-nil, drop_all, get_or-set_other, get_or-set_same}
use Rattle.std.proofs.lemmas.List.{take-append-drop, take_more_set}
use lib.Seq.{take-add}
use Rattle.hex.specs.Hex.{◌>>=◌, decode_of, decode_pairs, encode_lower, encode_with, hex_digit_value, lower_digits, pair_value, value_at}
use Rattle.hex.specs.declared.error.FromHexError.{FromHexError}
use Rattle.hex.specs.declared.error.FromHexError.TheVariants.{InvalidHexCharacter}
use Rattle.hex.proofs.HexLemmas.{decode_of-even}
use Rattle.oa_frame.specs.Digits.{AreDecoded, HasBadPair, HasDigitValue, HasNoDigit, IsDigitValue}
use Rattle.hex.proofs.Pairs.{cons_byte, decode_start, decode_step, prepend}
use Rattle.oa_stream.specs.promise.Sink.{Output, Writes, Breaks}
use Rattle.oa_stream.proofs.Stretches.{writes_nothing, writes_then, breaks_after, breaks_before}

encode_append : (t xs ys : List ℕ) → encode_with t (xs ++ ys) ≡ encode_with t xs ++ encode_with t ys
unfolding encode_with
encode_append t [] ys = refl
encode_append t (x ∷ xs) ys = rw (encode_append t xs ys) refl

pub hex_start : (o : Output) (bytes : List ℕ) → o.broken ≡ false → Writes o o (encode_lower (take 0 bytes))
unfolding encode_with
hex_start o bytes h = writes_nothing o h

hex_next : (bytes : List ℕ) (at n : ℕ) → encode_lower (take (at + n) bytes) ≡ encode_lower (take at bytes) ++ encode_lower (take (at + n - at) (drop at bytes))
hex_next bytes at n =
    let e : at + n - at ≡ n = omega arith in
    rw e (ap encode_lower (take-add at n bytes) ∙ encode_append lower_digits (take at bytes) (take n (drop at bytes)))

pub hex_more : (a b c : Output) (bytes : List ℕ) (at n : ℕ) → Writes a b (encode_lower (take at bytes))
    → Writes b c (encode_lower (take (at + n - at) (drop at bytes))) → Writes a c (encode_lower (take (at + n) bytes))
hex_more a b c bytes at n p q = subst (Writes a c) (sym (hex_next bytes at n)) (writes_then a b c _ _ p q)

pub hex_breaks : (a b c : Output) (bytes : List ℕ) (at n : ℕ) → Writes a b (encode_lower (take at bytes))
    → Breaks b c (encode_lower (take (at + n - at) (drop at bytes))) → Breaks a c (encode_lower bytes)
hex_breaks a b c bytes at n p q =
    let front = take (at + n) bytes in
    let back = drop (at + n) bytes in
    let some : Breaks a c (encode_lower front) = subst (Breaks a c) (sym (hex_next bytes at n)) (breaks_after a b c _ _ p q) in
    let all : encode_lower front ++ encode_lower back ≡ encode_lower bytes = sym (encode_append lower_digits front back)
    ∙ ap encode_lower (take-append-drop (at + n) bytes) in
    subst (Breaks a c) all (breaks_before a c (encode_lower front) (encode_lower back) some)

-- the digits of two stretches
pub hex_two : (head fields rest : List ℕ) → encode_lower (head ++ fields) ++ rest ≡ encode_lower head ++ (encode_lower fields ++ rest)
hex_two head fields rest = ap (λ l. l ++ rest) (encode_append lower_digits head fields) ∙ append_assoc (encode_lower head) (encode_lower fields) rest

-- digits in a buffer, and a line feed behind them
pub hex_end : (fields line : List ℕ) (e : ℕ) → e < length line → take e line ≡ encode_lower fields
    → take (e + 1) (slice_set line e 10) ≡ encode_lower fields ++ 10 ∷ []
hex_end fields line e fits front = take_more_set line e 10 fits ∙ ap (λ l. l ++ 10 ∷ []) front

-- the bytes of the pairs so far, and the pairs behind them
abbrev IsDecoded : List ℕ → List ℕ → ℕ → Type 0
IsDecoded text out i = decode_pairs 0 text ≡ prepend (take i out) (decode_pairs (2 * i) (drop (2 * i) text))

-- one value more
pub value_more : (text values : List ℕ) (from k v : ℕ) → k < length values → HasDigitValue (slice_index text (from + k)) v
    → ((j : ℕ) → j < k → HasDigitValue (slice_index text (from + j)) (slice_index values j)) → (j : ℕ) → j < k + 1
    → HasDigitValue (slice_index text (from + j)) (slice_index (slice_set values k v) j)
value_more text values from k v room here so_far j below = elim (cases_lt j k) [
  | inl less ↦ rw (get_or-set_other values k j v 0 (λ e. let same = e in absurd (omega (arith, less, same)))) (so_far j less)
  | inr top ↦
      let e : j ≡ k = omega arith in
      rw (e, get_or-set_same values k v 0 room) here
]

-- all pairs
pairs_all : (text out : List ℕ) (i : ℕ) → length text ≤ 2 * i → length text % 2 ≡ 0 → IsDecoded text out i → decode_of text ≡ Ok (take i out)
unfolding decode_pairs
pairs_all text out i all even so_far =
    decode_of-even text even ∙ so_far ∙ ap (prepend (take i out)) (ap (decode_pairs (2 * i)) (drop_all (2 * i) text all)) ∙ ap Ok (append-nil (take i out))

pairs_at : (text out : List ℕ) (i n : ℕ) → i ≡ n → n ≡ length text / 2 → length text % 2 ≡ 0 → IsDecoded text out i → decode_of text ≡ Ok (take n out)
pairs_at text out i n same half even so_far = rw (sym same) (pairs_all text out i (omega (arith, same, half, even)) even so_far)

-- one pair more
pub few_more : (text out : List ℕ) (i v : ℕ) (good is : Bool) → i < length out
    → (is ≡ true → (k : ℕ) → pair_value (slice_index text (2 * i)) (slice_index text (2 * i + 1)) k ≡ Ok v)
    → (good ≡ true → AreDecoded text out i) → (good && is) ≡ true → AreDecoded text (slice_set out i v) (i + 1)
few_more text out i v true true room pair so_far h = λ k below j. elim (cases_lt k i) [
  | inl less ↦ rw (get_or-set_other out i k v 0 (λ e. let same = e in absurd (omega (arith, less, same)))) (so_far refl k less j)
  | inr top ↦
      let e : k ≡ i = omega arith in
      rw (e, get_or-set_same out i v 0 room) (pair refl j)
]
few_more text out i v true false room pair so_far h = absurd (false≢true h)
few_more text out i v false is room pair so_far h = absurd (false≢true h)

-- a pair that is none, among more
pub bad_among : (text : List ℕ) (n m : ℕ) → n ≤ m → HasBadPair text n → HasBadPair text m
bad_among text n m le h = record { place = h.place; below = let below = h.below in omega (arith, below, le); bad = h.bad }

-- a pair that is none, now or before
pub few_bad : (text : List ℕ) (i : ℕ) (good is : Bool)
    → (is ≡ false → (k : ℕ) → IsErr (pair_value (slice_index text (2 * i)) (slice_index text (2 * i + 1)) k))
    → (good ≡ false → HasBadPair text i) → (good && is) ≡ false → HasBadPair text (i + 1)
few_bad text i false is pair bad h = bad_among text i (i + 1) (omega arith) (bad refl)
few_bad text i true true pair bad h = absurd (false≢true (sym h))
few_bad text i true false pair bad h = record { place = i; below = omega arith; bad = pair refl }

digit_small : (c v : ℕ) → hex_digit_value c ≡ Some v → v < 16
digit_small c v h = grind (arith)

small_digit : (o : Option ℕ) (v : ℕ) → IfSome o (λ w. v ≡ w) → (IsNone o → 16 ≤ v) → v < 16 → o ≡ Some v
small_digit (Some w) v same none small = ap Some (sym same)
small_digit None v same none small = absurd (let large = none refl in omega (arith, large, small))

no_digit : (c : ℕ) (o : Option ℕ) (v : ℕ) → hex_digit_value c ≡ o → IfSome o (λ w. v ≡ w) → 16 ≤ v → o ≡ None
no_digit c (Some w) v is same large = absurd (let small = digit_small c w is in omega (arith, small, same, large))
no_digit c None v is same large = refl

-- the values from 16 on, as a mask
abbrev large : List ℕ → ℕ
large values = mask_l (map (leb 16) values)

large_is : (values : List ℕ) → length values ≡ 32 → mask_l (map (top 7) (zip2 (λ a b. cond (leb a b) 255 0) (replicate 32 16) values)) % 2 ^ 64 ≡ large values
large_is values long =
    ap (λ ms. mask_l ms % 2 ^ 64) (tops_compared w8 leb (replicate 32 16) values ∙ zip2_splat_left leb 16 32 values long)
    ∙ mask_l-mod (map (leb 16) values) 64 (omega (arith, long, length-map values (leb 16)))

lane_small : (b : Bool) (v m : ℕ) → leb 16 v ≡ b → cond {A = ℕ} b 1 0 + 2 * m ≡ 0 → v < 16
lane_small true v m e h = absurd (omega (arith, h))
lane_small false v m e h = let small = leb-false 16 v e in omega (arith, small)

lanes_behind : (b : Bool) (m : ℕ) → cond {A = ℕ} b 1 0 + 2 * m ≡ 0 → m ≡ 0
lanes_behind true m h = absurd (omega (arith, h))
lanes_behind false m h = omega (arith, h)

none_large : (values : List ℕ) (k : ℕ) → large values ≡ 0 → k < length values → slice_index values k < 16
none_large [] k h below = absurd (omega (arith, below))
none_large (v ∷ values) zero h below = lane_small (leb 16 v) v (large values) refl h
none_large (v ∷ values) (suc k) h below = none_large values k (lanes_behind (leb 16 v) (large values) h) (omega (arith, below))

record HasLarge (values : List ℕ) : Type 0 where
  place : ℕ
  below : place < length values
  large : 16 ≤ slice_index values place

lane_large : (b : Bool) (v : ℕ) (values : List ℕ) → leb 16 v ≡ b → 0 < cond {A = ℕ} b 1 0 + 2 * large values → (0 < large values → HasLarge values)
    → HasLarge (v ∷ values)
lane_large true v values e h rest = record { place = 0; below = omega arith; large = leb-true 16 v e }
lane_large false v values e h rest = let r = rest (omega (arith, h)) in
    record { place = suc r.place; below = let below = r.below in omega (arith, below); large = r.large }

some_large : (values : List ℕ) → 0 < large values → HasLarge values
some_large [] h = absurd (omega (arith, h))
some_large (v ∷ values) h = lane_large (leb 16 v) v values refl h (some_large values)

above_zero : (n : ℕ) → n ≢ 0 → 0 < n
above_zero zero h = absurd (h refl)
above_zero (suc n) h = omega arith

pub are_small : (values : List ℕ) → length values ≡ 32 → eqb (mask_l (map (top 7) (zip2 (λ a b. cond (leb a b) 255 0) (replicate 32 16) values)) % 2 ^ 64) 0
    ≡ true → (k : ℕ) → k < 32 → IsDigitValue (slice_index values k)
are_small values long h k below =
    let small = none_large values k (sym (large_is values long) ∙ eqb-true _ 0 h) (omega (arith, long, below)) in
    record { small = small; digit = λ c has. small_digit (hex_digit_value c) (slice_index values k) has.digit has.none small }

pub is_large : (values : List ℕ) → length values ≡ 32 → eqb (mask_l (map (top 7) (zip2 (λ a b. cond (leb a b) 255 0) (replicate 32 16) values)) % 2 ^ 64) 0
    ≡ false → HasNoDigit values 32
is_large values long h =
    let some = eqb-false _ 0 h in
    let one = some_large values (rw (large_is values long) at (above_zero _ some)) in
    record {
      place = one.place;
      below = let below = one.below in omega (arith, long, below);
      none = λ c has. no_digit c (hex_digit_value c)
          (slice_index values one.place) refl has.digit one.large;
    }

-- one byte more of a block
pub kept_more : (old out : List ℕ) (at k v : ℕ) → ((j : ℕ) → j < at → slice_index out j ≡ slice_index old j) → (j : ℕ) → j < at
    → slice_index (slice_set out (at + k) v) j ≡ slice_index old j
kept_more old out at k v same j below = get_or-set_other out (at + k) j v 0 (λ e. let apart = e in absurd (omega (arith, below, apart))) ∙ same j below

pub written_more : (bytes out : List ℕ) (at k : ℕ) → at + k < length out → ((j : ℕ) → j < k → slice_index out (at + j) ≡ slice_index bytes j)
    → (j : ℕ) → j < k + 1 → slice_index (slice_set out (at + k) (slice_index bytes k)) (at + j) ≡ slice_index bytes j
written_more bytes out at k room so_far j below = elim (cases_lt j k) [
  | inl less ↦ get_or-set_other out (at + k) (at + j) _ 0 (λ e. let same = e in absurd (omega (arith, less, same))) ∙ so_far j less
  | inr top ↦
      let e : j ≡ k = omega arith in
      rw e (get_or-set_same out (at + k) (slice_index bytes k) 0 room)
]

-- of two tests one fails
pub either_fails : (one other : Bool) → (one && other) ≡ false → (one ≡ false) ⊎ (other ≡ false)
either_fails false other h = inl refl
either_fails true other h = inr h

-- the bytes of a block's values
pub joined_at : (values : List ℕ) → length values ≡ 32 → (k : ℕ) → k < 16
    → slice_index (map (λ (j : ℕ). (get_or (values ++ values) (2 * j) 0 * 16 % 256 + get_or (values ++ values) (2 * j + 1) 0) % 256) (range_with_len 0 16)) k
    ≡ (slice_index values (2 * k) * 16 + slice_index values (2 * k + 1)) % 256
joined_at values long k below =
    let first = get_or_append_left values values 0 (2 * k) (omega (arith, long, below)) in
    let second = get_or_append_left values values 0 (2 * k + 1) (omega (arith, long, below)) in
    get_or-map-range_with_len (λ (j : ℕ). (get_or (values ++ values) (2 * j) 0 * 16 % 256 + get_or (values ++ values) (2 * j + 1) 0) % 256) 0 16 k k 0 below
    (omega arith)
    ∙ rw (first, second) (omega arith)

-- the byte of two digits
pair_of : (c d i high low : ℕ) → hex_digit_value c ≡ Some high → hex_digit_value d ≡ Some low → pair_value c d i ≡ Ok (high * 16 + low)
pair_of c d i high low one other = rw (one, other) refl

-- the pairs of a block
pub block_more : (text old new values bytes : List ℕ) (at : ℕ) → ((j : ℕ) → j < at → slice_index new j ≡ slice_index old j)
    → ((j : ℕ) → j < 16 → slice_index new (at + j) ≡ slice_index bytes j)
    → ((k : ℕ) → k < 16 → slice_index bytes k ≡ (slice_index values (2 * k) * 16 + slice_index values (2 * k + 1)) % 256)
    → ((k : ℕ) → k < 32 → HasDigitValue (slice_index text (2 * at + k)) (slice_index values k))
    → ((k : ℕ) → k < 32 → IsDigitValue (slice_index values k)) → AreDecoded text old at → AreDecoded text new (at + 16)
block_more text old new values bytes at same written joined read are so_far k below i = elim (cases_lt k at) [
  | inl less ↦ rw (same k less) (so_far k less i)
  | inr top ↦
      let j = k - at in
      let within : j < 16 = omega (arith, below, top) in
      let here : at + (k - at) ≡ k = omega (arith, top) in
      let one : 2 * at + 2 * (k - at) ≡ 2 * k = omega (arith, top) in
      let two : 2 * at + (2 * (k - at) + 1) ≡ 2 * k + 1 = omega (arith, top) in
      let first = are (2 * j) (omega (arith, within)) in
      let second = are (2 * j + 1) (omega (arith, within)) in
      let high : hex_digit_value (slice_index text (2 * k)) ≡ Some (slice_index values (2 * j)) =
      rw one at (first.digit _ (read (2 * j) (omega (arith, within)))) in
      let low : hex_digit_value (slice_index text (2 * k + 1)) ≡ Some (slice_index values (2 * j + 1)) =
      rw two at (second.digit _ (read (2 * j + 1) (omega (arith, within)))) in
      let small = first.small in
      let short = second.small in
      let sum : (slice_index values (2 * j) * 16 + slice_index values (2 * j + 1)) % 256 ≡ slice_index values (2 * j) * 16 + slice_index values (2 * j + 1) =
      omega (arith, small, short) in
      let byte : slice_index new k ≡ slice_index values (2 * j) * 16 + slice_index values (2 * j + 1) = rw here at (written j within) ∙ joined j within ∙ sum in
      pair_of (slice_index text (2 * k)) (slice_index text (2 * k + 1)) i (slice_index values (2 * j)) (slice_index values (2 * j + 1)) high low
      ∙ ap Ok (sym byte)
]

second_fails : (r : Result ℕ FromHexError) (e : FromHexError) → IsErr (r >>= (λ h. Err e >>= (λ (l : ℕ). Ok (h * 16 + l))))
second_fails (Ok h) e = refl
second_fails (Err f) e = refl

-- a pair with what is no digit
first_none : (c d i : ℕ) → hex_digit_value c ≡ None → IsErr (pair_value c d i)
first_none c d i none = rw none refl

second_none : (c d i : ℕ) → hex_digit_value d ≡ None → IsErr (pair_value c d i)
second_none c d i none = rw none (second_fails (value_at c i) (InvalidHexCharacter d (i + 1)))

pub block_bad : (text values : List ℕ) (at : ℕ) → ((k : ℕ) → k < 32 → HasDigitValue (slice_index text (2 * at + k)) (slice_index values k))
    → HasNoDigit values 32 → HasBadPair text (at + 16)
block_bad text values at read h =
    let j = h.place in
    let below = h.below in
    let none = h.none (slice_index text (2 * at + j)) (read j below) in
    let within : at + j / 2 < at + 16 = omega (arith, below) in
    elim (cases_lt (j % 2) 1) [
      | inl even ↦
          let here : 2 * at + j ≡ 2 * (at + j / 2) = omega (arith, even) in
          record {
            place = at + j / 2;
            below = within;
            bad = λ i. first_none (slice_index text (2 * (at + j / 2))) (slice_index text (2 * (at + j / 2) + 1)) i
                (rw here at none);
          }
      | inr odd ↦
          let here : 2 * at + j ≡ 2 * (at + j / 2) + 1 = omega (arith, odd) in
          record {
            place = at + j / 2;
            below = within;
            bad = λ i. second_none (slice_index text (2 * (at + j / 2))) (slice_index text (2 * (at + j / 2) + 1)) i
                (rw here at none);
          }
    ]

-- pairs that are decoded, one behind another
in_a_row : (text out : List ℕ) (n : ℕ) → 2 * n ≤ length text → n ≤ length out → AreDecoded text out n → IsDecoded text out n
in_a_row text out zero fits room all = decode_start text out
in_a_row text out (suc n) fits room all =
    let before = in_a_row text out n (omega (arith, fits)) (omega (arith, room)) (λ k below. all k (omega (arith, below))) in
    let next : n + 1 ≡ suc n = omega arith in
    let more = decode_step text out n (slice_index out n) (omega (arith, fits)) (omega (arith, room)) (all n (omega arith) (2 * n)) before in
    subst (IsDecoded text out) next (subst (λ (o : List ℕ). IsDecoded text o (n + 1)) (set-get_or out n 0) more)

pub all_decoded : (text out : List ℕ) (n : ℕ) → n ≡ length text / 2 → length text % 2 ≡ 0 → n ≤ length out → AreDecoded text out n
    → decode_of text ≡ Ok (take n out)
all_decoded text out n half even room all = pairs_at text out n n refl half even (in_a_row text out n (omega (arith, half)) room all)

first_ends : (p : Result ℕ FromHexError) (rest : Result (List ℕ) FromHexError) → IsErr p → IsErr (p >>= (λ v. cons_byte v rest))
first_ends (Ok v) rest h = absurd (false≢true h)
first_ends (Err e) rest h = refl

rest_ends : (p : Result ℕ FromHexError) (rest : Result (List ℕ) FromHexError) → IsErr rest → IsErr (p >>= (λ v. cons_byte v rest))
rest_ends (Ok v) (Ok xs) h = absurd (false≢true h)
rest_ends (Ok v) (Err e) h = refl
rest_ends (Err e) rest h = refl

-- a pair that is none ends the decoding
ends_badly : (text : List ℕ) (i place : ℕ) → 2 * place + 1 < length text
    → ((j : ℕ) → IsErr (pair_value (slice_index text (2 * place)) (slice_index text (2 * place + 1)) j)) → IsErr (decode_pairs i text)
unfolding decode_pairs
ends_badly [] i place fits bad = absurd (omega (arith, fits))
ends_badly (a ∷ []) i place fits bad = absurd (omega (arith, fits))
ends_badly (a ∷ b ∷ rest) i zero fits bad = first_ends (pair_value a b i) (decode_pairs (i + 2) rest) (bad i)
ends_badly (a ∷ b ∷ rest) i (suc place) fits bad =
    let one : 2 * suc place ≡ suc (suc (2 * place)) = omega arith in
    let two : 2 * suc place + 1 ≡ suc (suc (2 * place + 1)) = omega arith in
    rest_ends (pair_value a b i) (decode_pairs (i + 2) rest) (ends_badly rest (i + 2) place (omega (arith, fits)) (λ j. rw (two, one) at (bad j)))

pub badly_decoded : (text : List ℕ) (n : ℕ) → n ≡ length text / 2 → length text % 2 ≡ 0 → HasBadPair text n → IsErr (decode_of text)
badly_decoded text n half even h =
    let below = h.below in
    rw (decode_of-even text even) (ends_badly text 0 h.place (omega (arith, below, half, even)) h.bad)

-- a test of all numbers below one
abbrev all_below : (ℕ → Bool) → ℕ → Bool
all_below p zero = true
all_below p (suc n) = p n && all_below p n

below_at : (p : ℕ → Bool) (n k : ℕ) → all_below p n ≡ true → k < n → p k ≡ true
below_at p zero k h below = absurd (omega arith)
below_at p (suc n) k h below =
    let parts = and_parts (p n) (all_below p n) h in
    elim (cases_lt k n) [
      | inl less ↦ below_at p n k parts.1 less
      | inr top ↦
          let e : k ≡ n = omega arith in
          rw e parts.0
    ]

-- the digits of the values below ten, and of those above
pub low_digit : (n : ℕ) → n < 10 → 48 + n ≡ slice_index lower_digits n
low_digit n h = eqb-true (48 + n) (slice_index lower_digits n) (below_at (λ d. (48 + d) == slice_index lower_digits d) 10 n refl h)

high : (k : ℕ) → k < 6 → 97 + k ≡ slice_index lower_digits (10 + k)
high k h = eqb-true (97 + k) (slice_index lower_digits (10 + k)) (below_at (λ d. (97 + d) == slice_index lower_digits (10 + d)) 6 k refl h)

pub high_digit : (n : ℕ) → 10 ≤ n → n < 16 → 87 + n ≡ slice_index lower_digits n
high_digit n low below =
    let back : 10 + (n - 10) ≡ n = omega (arith, low) in
    let sum : 97 + (n - 10) ≡ 87 + n = omega (arith, low) in
    sym sum ∙ high (n - 10) (omega (arith, low, below)) ∙ ap (λ k. slice_index lower_digits k) back

-- all bytes are digits
pub all_digits : (bytes digits : List ℕ) (i n : ℕ) → length bytes ≤ i → i ≡ n → take (2 * i) digits ++ encode_lower (drop i bytes) ≡ encode_lower bytes
    → take (2 * n) digits ≡ encode_lower bytes
unfolding encode_with
all_digits bytes digits i n all same so_far =
    let none = drop_all i bytes all in
    rw (sym same) (sym (append-nil (take (2 * i) digits)) ∙ rw none at so_far)
