-- The formats of numbers, the lowest byte first, of GUIDs and of truth values (this project's choice).
use Rattle.std.proofs.Common.{◌≡◌, ℕ, zero, suc, ◌<◌, ◌^◌, Bool, true, false, cond, eqb, List, [], ◌∷◌, length, get_or}
use Rattle.std.proofs.Common.{Option, Some, None, refl, sym, ap, ◌∙◌, arith, rules, ℤ}
use Rattle.std.specs.Prelude.{FitsSigned, ◌==◌, if◌then◌else◌}
use Rattle.std.specs.Int.{w8, w16, w32, w64, from_le_bytes, to_le_bytes, cast_signed, cast_unsigned}
use mir.Facts.{Fits-of_z, to_z-of_z}
use Rattle.std.proofs.lemmas.Int.{of_z-to_z}
use Rattle.std.proofs.Math.Facts.{sfits_to_z}
use Rattle.std.proofs.lemmas.Bool.{eqb-true}
use Rattle.std.proofs.lemmas.Nat.{le_bytes_2, le_bytes_4, le_bytes_8, from_le_bytes-to_le_bytes_2}
use Rattle.std.proofs.lemmas.Nat.{from_le_bytes-to_le_bytes_4, from_le_bytes-to_le_bytes_8}
use Rattle.uuid.proofs.RoundTrips.{swap_twice}
use Rattle.oa_model.specs.promise.Guids.{wire_order}
use Rattle.oa_formats.specs.promise.Formats.{Format, IsBytes, raw, made_where, coded, same_content}

pub byte_at : (xs : List ℕ) → IsBytes xs → (i : ℕ) → get_or xs i 0 < 256
byte_at [] all i = omega arith
byte_at (x ∷ xs) all zero = all.0
byte_at (x ∷ xs) all (suc i) = byte_at xs all.1 i

pub only_byte : (bs : List ℕ) → length bs ≡ 1 → from_le_bytes w8 bs ∷ [] ≡ bs
only_byte [] len = absurd (omega arith)
only_byte (b ∷ []) len = refl
only_byte (b ∷ c ∷ bs) len = absurd (omega arith)

-- ---- unsigned numbers

unfoldable pub u8 : Format ℕ
unfolding raw
u8 = made_where (λ n. n < 2 ^ 8) (from_le_bytes w8) (λ n. n ∷ []) (raw 1)
    (λ bs len ok. let e = byte_at bs ok in (omega (arith, e 0), only_byte bs len)) (λ n h. (refl, omega (arith, h)))

unfoldable pub u16 : Format ℕ
unfolding raw
u16 = made_where (λ n. n < 2 ^ 16) (from_le_bytes w16) (to_le_bytes w16) (raw 2)
    (λ bs len ok. let e = byte_at bs ok in (omega (arith, e 0, e 1), le_bytes_2 bs (from_le_bytes w16 bs) len e refl))
    (λ n h. (refl, from_le_bytes-to_le_bytes_2 n h))

unfoldable pub u32 : Format ℕ
unfolding raw
u32 = made_where (λ n. n < 2 ^ 32) (from_le_bytes w32) (to_le_bytes w32) (raw 4)
    (λ bs len ok. let e = byte_at bs ok in
    (omega (arith, e 0, e 1, e 2, e 3), le_bytes_4 bs (from_le_bytes w32 bs) len e refl))
    (λ n h. (refl, from_le_bytes-to_le_bytes_4 n h))

unfoldable pub u64 : Format ℕ
unfolding raw
u64 = made_where (λ n. n < 2 ^ 64) (from_le_bytes w64) (to_le_bytes w64) (raw 8)
    (λ bs len ok. let e = byte_at bs ok in (
      omega (arith, e 0, e 1, e 2, e 3, e 4, e 5, e 6, e 7),
      le_bytes_8 bs (from_le_bytes w64 bs) len e refl,
    )) (λ n h. (refl, from_le_bytes-to_le_bytes_8 n h))

-- ---- signed numbers, in two's complement

pub fits_8 : (n : ℕ) → n < 2 ^ 8 → FitsSigned w8 (cast_signed w8 n)
fits_8 n h = search (rules, sfits_to_z)

pub fits_16 : (n : ℕ) → n < 2 ^ 16 → FitsSigned w16 (cast_signed w16 n)
fits_16 n h = search (rules, sfits_to_z)

pub fits_32 : (n : ℕ) → n < 2 ^ 32 → FitsSigned w32 (cast_signed w32 n)
fits_32 n h = search (rules, sfits_to_z)

pub fits_64 : (n : ℕ) → n < 2 ^ 64 → FitsSigned w64 (cast_signed w64 n)
fits_64 n h = search (rules, sfits_to_z)

unfoldable pub i8 : Format ℤ
unfolding u8 made_where
i8 = made_where (FitsSigned w8) (cast_signed w8) (cast_unsigned w8) u8
    (λ n h ok. (fits_8 n h, of_z-to_z w8 n h)) (λ z fits. (omega (arith, Fits-of_z fits), to_z-of_z fits))

unfoldable pub i16 : Format ℤ
unfolding u16 made_where
i16 = made_where (FitsSigned w16) (cast_signed w16) (cast_unsigned w16) u16
    (λ n h ok. (fits_16 n h, of_z-to_z w16 n h)) (λ z fits. (omega (arith, Fits-of_z fits), to_z-of_z fits))

unfoldable pub i32 : Format ℤ
unfolding u32 made_where
i32 = made_where (FitsSigned w32) (cast_signed w32) (cast_unsigned w32) u32
    (λ n h ok. (fits_32 n h, of_z-to_z w32 n h)) (λ z fits. (omega (arith, Fits-of_z fits), to_z-of_z fits))

unfoldable pub i64 : Format ℤ
unfolding u64 made_where
i64 = made_where (FitsSigned w64) (cast_signed w64) (cast_unsigned w64) u64
    (λ n h ok. (fits_64 n h, of_z-to_z w64 n h)) (λ z fits. (omega (arith, Fits-of_z fits), to_z-of_z fits))

-- ---- a GUID in wire order (MS-DTYP section 2.3.4.2)

unfoldable pub guid_format : Format (List ℕ)
unfolding raw
guid_format = made_where (λ id. length id ≡ 16) wire_order wire_order (raw 16)
    (λ bs len ok. (omega arith, swap_twice bs len))
    (λ id len. (omega arith, swap_twice id len))

-- ---- a truth value: one byte, 0 or 1

abbrev pub truth_of : ℕ → Option Bool
truth_of n = if n == 0 then Some false else if n == 1 then Some true else None

abbrev pub truth_code : Bool → ℕ
truth_code false = 0
truth_code true = 1

pub truth_chosen : (p q : Bool) (n : ℕ) (b : Bool) → (p ≡ true → n ≡ 0) → (q ≡ true → n ≡ 1)
    → cond p (Some false) (cond q (Some true) None) ≡ Some b → truth_code b ≡ n
truth_chosen true q n b is_zero is_one e = sym (ap truth_code (same_content false b e)) ∙ sym (is_zero refl)
truth_chosen false true n b is_zero is_one e = sym (ap truth_code (same_content true b e)) ∙ sym (is_one refl)
truth_chosen false false n b is_zero is_one e = absurd cc

pub truth_there : (n : ℕ) (b : Bool) → truth_of n ≡ Some b → truth_code b ≡ n
truth_there n b e = truth_chosen (eqb n 0) (eqb n 1) n b (eqb-true n 0) (eqb-true n 1) e

pub truth_here : (b : Bool) → (truth_code b < 2 ^ 8) × (truth_of (truth_code b) ≡ Some b)
truth_here false = (omega arith, refl)
truth_here true = (omega arith, refl)

unfoldable pub truth_format : Format Bool
unfolding u8 made_where
truth_format = coded (λ b. Unit {0}) truth_of truth_code u8 (λ n b is e. (tt, truth_there n b e)) (λ b is. truth_here b)
