-- The parts of a text's block.
use Rattle.std.proofs.Common.{◌≡◌, refl, sym, ap, ◌∙◌, ℕ, ◌+◌, ◌-◌, ◌≤◌, List, [], ◌∷◌, ◌++◌, length, arith}
use Rattle.std.specs.Prelude.{map, take, drop, get_or, Option, Some}
use Rattle.std.specs.Int.{w32, to_le_bytes, from_le_bytes}
use Rattle.std.proofs.lemmas.List.{append_assoc, length-append, length-map, take_at, drop_at, take-map}
use Rattle.std.proofs.lemmas.Nat.{from_le_bytes-to_le_bytes_4}
use Rattle.oa_cells.specs.Windows.{values}
use Rattle.oa_cells.proofs.Full.{values_of_full}
use Rattle.oa_bstr.specs.Block.{block_of, block_text, IsBlock}
use Rattle.oa_model.specs.promise.Limits.{max_text_bytes}

abbrev pub zeros : List ℕ
zeros = 0 ∷ 0 ∷ []

length-count : (n : ℕ) → length (to_le_bytes w32 n) ≡ 4
length-count n = refl

pub length-block : (bytes : List ℕ) → length (block_of bytes) ≡ length bytes + 6
unfolding block_of
length-block bytes = omega (arith, length-append (to_le_bytes w32 (length bytes)) (bytes ++ zeros), length-append bytes zeros, length-count (length bytes))

pub parts : (bytes : List ℕ) → block_of bytes ≡ to_le_bytes w32 (length bytes) ++ (bytes ++ zeros)
unfolding block_of
parts bytes = refl

pub is_block : (row : List (Option ℕ)) (bytes : List ℕ) → row ≡ map Some (block_of bytes) → length bytes ≤ max_text_bytes
    → IsBlock row × (block_text row ≡ bytes)
is_block row bytes e short =
    let read : values row ≡ block_of bytes = ap values e ∙ values_of_full (block_of bytes) in
    let behind : drop 4 (block_of bytes) ≡ bytes ++ zeros = ap (drop 4) (parts bytes) ∙ drop_at (to_le_bytes w32 (length bytes)) (bytes ++ zeros) 4
    (length-count (length bytes)) in
    let count : length bytes ≡ length (block_of bytes) - 6 = omega (arith, length-block bytes) in
    let text : block_text row ≡ bytes = ap (λ all. take (length all - 6) (drop 4 all)) read ∙ ap (take (length (block_of bytes) - 6)) behind
    ∙ take_at bytes zeros (length (block_of bytes) - 6) count in
    (record { whole = e ∙ ap (λ t. map Some (block_of t)) (sym text); short = rw text short }, text)

module _ (row : List (Option ℕ)) (block : IsBlock row) where
  abbrev text : List ℕ
  text = block_text row

  abbrev all : List ℕ
  all = block_of text

  pub length-row : length row ≡ length text + 6
  length-row = ap length block.whole ∙ length-map all Some ∙ length-block text

  pub begins : (len : ℕ) → take len row ≡ map Some (take len all)
  begins len = ap (take len) block.whole ∙ take-map Some len all

  pub begin_read : (len : ℕ) (xs : List ℕ) → take len row ≡ map Some xs → xs ≡ take len all
  begin_read len xs e = sym (values_of_full xs) ∙ ap values (sym e ∙ begins len) ∙ values_of_full (take len all)

-- The first four bytes are the count.
pub count_bytes : (bytes : List ℕ) → take 4 (block_of bytes) ≡ to_le_bytes w32 (length bytes)
count_bytes bytes = ap (take 4) (parts bytes) ∙ take_at (to_le_bytes w32 (length bytes)) (bytes ++ zeros) 4 (length-count (length bytes))

pub count_read : (bytes : List ℕ) → length bytes ≤ max_text_bytes → from_le_bytes w32 (to_le_bytes w32 (length bytes)) ≡ length bytes
count_read bytes short = from_le_bytes-to_le_bytes_4 (length bytes) (omega (arith, short))

-- The text follows the count.
pub text_bytes : (bytes : List ℕ) (end : ℕ) → end ≡ 4 + length bytes → drop 4 (take end (block_of bytes)) ≡ bytes
text_bytes bytes end e =
    let count = to_le_bytes w32 (length bytes) in let long : length (count ++ bytes) ≡ end =
    omega (arith, length-append count bytes, length-count (length bytes), e) in
    ap (λ all. drop 4 (take end all)) (parts bytes ∙ sym (append_assoc count bytes zeros)) ∙ ap (drop 4) (take_at (count ++ bytes) zeros end long)
    ∙ drop_at count bytes 4 (length-count (length bytes))

-- A block is made of its parts, one after another.
pub joined : (bytes : List ℕ) → ([] ++ to_le_bytes w32 (length bytes) ++ bytes) ++ zeros ≡ block_of bytes
joined bytes = append_assoc (to_le_bytes w32 (length bytes)) bytes zeros ∙ sym (parts bytes)

pub four : (xs : List ℕ) → length xs ≡ 4 → get_or xs 0 0 ∷ get_or xs 1 0 ∷ get_or xs 2 0 ∷ get_or xs 3 0 ∷ [] ≡ xs
four [] e = absurd (omega (arith, e))
four (a ∷ []) e = absurd (omega (arith, e))
four (a ∷ b ∷ []) e = absurd (omega (arith, e))
four (a ∷ b ∷ c ∷ []) e = absurd (omega (arith, e))
four (a ∷ b ∷ c ∷ d ∷ []) e = refl
four (a ∷ b ∷ c ∷ d ∷ x ∷ xs) e = absurd (omega (arith, e))
