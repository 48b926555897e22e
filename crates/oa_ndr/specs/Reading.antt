-- Definitions for contracts and proofs, beside promise/Reading.
use Rattle.std.specs.Prelude.{⊤, ◌≡◌, ℕ, ◌+◌, ◌==◌, Bool, not, nat_lt, if◌then◌else◌, List, [], ◌∷◌, length, take, drop}
use Rattle.std.specs.Prelude.{Option, Some, None, Result, Ok, Err}
use Rattle.byteorder.specs.Endian.{little_number}
use Rattle.oa_ndr.specs.promise.Forms.{padding}
use Rattle.oa_ndr.specs.promise.Reading.{Cursor, at, moved, Decoder, bind, ◌>>=◌, give, fail}

-- One of two decoders.
unfoldable pub choose : {A : Type 0} → Bool → Decoder A → Decoder A → Decoder A
choose b one other s = if b then one s else other s

-- The definitions that a proof unfolds to follow a decoder step by step.
unfoldable pub steps : ⊤
unfolding bind give fail choose
steps = tt

-- A call of the code on a reader returns what the decoder does, seen through `view`, and moves as far. If there is no
-- value, the reader does not move.
abbrev pub Gives : {X Y E : Type 0} → (X → Y) → Result X E → Cursor → Cursor → Option (Y × Cursor) → Type 0
Gives view (Ok x) old new read = read ≡ Some (view x, new)
Gives view (Err e) old new read = (read ≡ None) × (new ≡ old)

-- Skips the padding up to a multiple of n.
unfoldable pub align_at : ℕ → Decoder (Unit {0})
align_at n s = if nat_lt (length s.rest) (padding n s.position) then None else Some (tt, moved (padding n s.position) s)

-- Reads the n bytes at the next multiple of n.
unfoldable pub slot_at : ℕ → Decoder (List ℕ)
slot_at n s =
    if nat_lt (length s.rest) (padding n s.position + n) then None
    else Some (take n (drop (padding n s.position) s.rest), moved (padding n s.position + n) s)

-- Reads the number in the n bytes at the next multiple of n.
unfoldable pub unit_at : ℕ → Decoder ℕ
unit_at n = do
  slot ← slot_at n
  give (little_number n slot)

-- Reads a referent and returns whether it is set.
unfoldable pub referent_at : Decoder Bool
referent_at = do
  number ← unit_at 4
  give (not (number == 0))

-- Reads a value for each entry of a list.
unfoldable pub map_at : {A B : Type 0} → (A → Decoder B) → List A → Decoder (List B)
map_at read [] = give []
map_at read (x ∷ xs) = do
  first ← read x
  others ← map_at read xs
  give (first ∷ others)

-- The value, if no bytes are left.
abbrev pub all_used : {A : Type 0} → Option (A × Cursor) → Option A
all_used None = None
all_used (Some x) = if length x.1.rest == 0 then Some x.0 else None

-- The value of a whole field.
abbrev pub whole : {A : Type 0} → Decoder A → List ℕ → Option A
whole read bytes = all_used (read (at 0 bytes))
