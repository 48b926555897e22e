-- Decoders as functions on lists. They return the value at the front and the rest, or None.
--
-- The steps are unfoldable, so that the theorems in proofs/Laws need no continuation in full, and the contracts of the
-- code show names.
use Rattle.std.specs.Prelude.{ℕ, zero, suc, ◌+◌, nat_lt, if◌then◌else◌, List, [], ◌∷◌, length, take, drop, Option, Some}
use Rattle.std.specs.Prelude.{None}

-- The state of a reader: its offset from the first byte of the field, and the bytes from there on.
pub record Cursor : Type 0 where
  pub position : ℕ
  pub rest : List ℕ

abbrev pub at : ℕ → List ℕ → Cursor
at position rest = record { position = position; rest = rest }

-- The reader after n more bytes.
abbrev pub moved : ℕ → Cursor → Cursor
moved n s = at (s.position + n) (drop n s.rest)

-- A decoder: it returns the value at the front and the rest, or None.
abbrev pub Decoder : Type 0 → Type 0
Decoder A = Cursor → Option (A × Cursor)

abbrev pub and_then : {A B : Type 0} → Option (A × Cursor) → (A → Decoder B) → Option (B × Cursor)
and_then None next = None
and_then (Some x) next = next x.0 x.1

-- One decoder after another.
unfoldable pub bind : {A B : Type 0} → Decoder A → (A → Decoder B) → Decoder B
bind read next s = and_then (read s) next

infixl 10 ◌>>=◌
abbrev pub ◌>>=◌ : {A B : Type 0} → Decoder A → (A → Decoder B) → Decoder B
read >>= next = bind read next

-- Reads nothing and returns this value.
unfoldable pub give : {A : Type 0} → A → Decoder A
give x s = Some (x, s)

-- Fails.
unfoldable pub fail : {A : Type 0} → Decoder A
fail s = None

-- Reads n bytes.
unfoldable pub bytes_at : ℕ → Decoder (List ℕ)
bytes_at n s = if nat_lt (length s.rest) n then None else Some (take n s.rest, moved n s)

-- Reads n values of one kind.
unfoldable pub many : {A : Type 0} → Decoder A → ℕ → Decoder (List A)
many read zero = give []
many read (suc n) = do
  first ← read
  others ← many read n
  give (first ∷ others)
