-- The values of characters as digits, and pairs of digits as the bytes of a buffer. (This project's choice.)
use Rattle.std.specs.Prelude.{◌≡◌, ℕ, ◌+◌, ◌*◌, ◌<◌, ◌≤◌, List, slice_index, Some, None, Ok, IfSome, IsErr, IsNone}
use Rattle.hex.specs.Hex.{hex_digit_value, pair_value}

-- the value of the digit; 16 or more for any other character
pub record HasDigitValue (c value : ℕ) : Type 0 where
  pub digit : IfSome (hex_digit_value c) (λ v. value ≡ v)
  pub none : IsNone (hex_digit_value c) → 16 ≤ value

-- every character with this value is a digit
pub record IsDigitValue (value : ℕ) : Type 0 where
  pub small : value < 16
  pub digit : (c : ℕ) → HasDigitValue c value → hex_digit_value c ≡ Some value

-- no character with this value is a digit
abbrev pub IsNoDigitValue : ℕ → Type 0
IsNoDigitValue value = (c : ℕ) → HasDigitValue c value → hex_digit_value c ≡ None

-- some of the first n values is not that of a digit
pub record HasNoDigit (values : List ℕ) (n : ℕ) : Type 0 where
  pub place : ℕ
  pub below : place < n
  pub none : IsNoDigitValue (slice_index values place)

-- the first n pairs are those of the bytes of a buffer
abbrev pub AreDecoded : List ℕ → List ℕ → ℕ → Type 0
AreDecoded text bytes n = (k : ℕ) → k < n → (i : ℕ)
    → pair_value (slice_index text (2 * k)) (slice_index text (2 * k + 1)) i ≡ Ok (slice_index bytes k)

-- some of the first n pairs is not two digits
pub record HasBadPair (text : List ℕ) (n : ℕ) : Type 0 where
  pub place : ℕ
  pub below : place < n
  pub bad : (i : ℕ) → IsErr (pair_value (slice_index text (2 * place)) (slice_index text (2 * place + 1)) i)
