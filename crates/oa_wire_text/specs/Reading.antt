-- Decoders as functions on lists, which agree with the forms (the theorems are in proofs/TextLaws).
use Rattle.std.specs.Prelude.{◌≡◌, ℕ, ◌+◌, ◌%◌, ◌==◌, ◌&&◌, nat_le, List, Option, Some, None, Result, Ok, Err, ◌++◌}
use Rattle.std.specs.Prelude.{length, drop}
use Rattle.oa_ndr.specs.promise.Forms.{padding}
use Rattle.oa_ndr.specs.promise.Reading.{Cursor, Decoder, ◌>>=◌, give, fail, bytes_at}
use Rattle.oa_ndr.specs.Reading.{choose, unit_at, referent_at}
use Rattle.oa_model.specs.promise.Limits.{max_text_bytes}
use Rattle.oa_wire_text.specs.declared.fault.StubFault.{StubFault}
use Rattle.oa_wire_text.specs.declared.fault.StubFault.TheVariants.{BadStub, Memory}
use Rattle.oa_wire_text.specs.promise.Texts.{units}

-- A call of the code returns and leaves what the decoder does, unless memory runs out.
abbrev pub ReadsField : {A : Type 0} → Result A StubFault → Cursor → Option (A × Cursor) → Type 0
ReadsField (Ok x) new read = read ≡ Some (x, new)
ReadsField (Err BadStub) new read = read ≡ None
ReadsField (Err Memory) new read = Unit {0}

-- The statement holds if the call has failed with `Memory`.
abbrev pub OnMemory : {A : Type 0} → Result A StubFault → Type 0 → Type 0
OnMemory (Ok x) P = Unit {0}
OnMemory (Err BadStub) P = Unit {0}
OnMemory (Err Memory) P = P

-- The bytes from the next multiple of n on.
abbrev pub from_multiple : ℕ → Cursor → List ℕ
from_multiple n s = drop (padding n s.position) s.rest

-- The bytes between two states of a reader have the form.
pub record ReadSpan (F : ℕ → List ℕ → Type 0) (from to : Cursor) : Type 0 where
  pub text : List ℕ
  pub parts : from.rest ≡ text ++ to.rest
  pub place : to.position ≡ from.position + length text
  pub form : F from.position text

-- The result of a call on a reader is right: the value that the bytes encode that it has moved past; `BadStub` only if
-- no bytes at the reader encode a value. After an error the reader has not moved.
abbrev pub IsFront : {A : Type 0} → (A → ℕ → List ℕ → Type 0) → Result A StubFault → Cursor → Cursor → Type 0
IsFront F (Ok x) old new = ReadSpan (F x) old new
IsFront {A} F (Err BadStub) old new = ((x : A) (end : Cursor) → ReadSpan (F x) old end → ⊥) × (new ≡ old)
IsFront F (Err Memory) old new = new ≡ old

-- Reads the bytes of a text of this length, and one more after an odd last byte.
unfoldable pub body_at : ℕ → Decoder (List ℕ)
body_at len = do
  text ← bytes_at len
  _ ← bytes_at (len % 2)
  give text

unfoldable pub text_at : ℕ → Decoder (Option (List ℕ))
text_at len = do
  text ← body_at len
  give (Some text)

-- Reads a text without its referent.
unfoldable pub blob_at : Decoder (Option (List ℕ))
blob_at = do
  maximum ← unit_at 4
  len ← unit_at 4
  size ← unit_at 4
  choose (len == 4294967295)
      (choose ((maximum == 0) && (size == 0)) (give None) fail)
      (choose ((maximum == units len) && (size == units len) && nat_le len max_text_bytes) (text_at len) fail)

-- Reads a referent and its text.
unfoldable pub bstr_at : Decoder (Option (List ℕ))
bstr_at = do
  is_set ← referent_at
  choose is_set blob_at (give None)
