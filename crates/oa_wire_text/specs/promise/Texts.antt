-- The encoding of a text as the pointee of a referent: FLAGGED_WORD_BLOB (MS-OAUT section 2.2.23).
use Rattle.std.specs.Prelude.{◌≡◌, ℕ, ◌+◌, ◌/◌, ◌%◌, ◌≤◌, Bool, true, false, List, length, Option, Some, None}
use Rattle.oa_ndr.specs.promise.Forms.{Encoding, ◌▸◌, nothing, unit, exactly, any, with, given, referent}
use Rattle.oa_model.specs.promise.Limits.{max_text_bytes}

-- The number of 16-bit units that contain n bytes; an odd last byte needs one of its own.
abbrev pub units : ℕ → ℕ
units n = (n + 1) / 2

-- The value of cBytes, 0xFFFFFFFF for null.
abbrev pub text_len : Option (List ℕ) → ℕ
text_len None = 4294967295
text_len (Some text) = length text

-- The value of the maximum count and of clSize.
abbrev pub text_units : Option (List ℕ) → ℕ
text_units None = 0
text_units (Some text) = units (length text)

-- The bytes of the text, with one more byte after an odd last one. Their number has a limit (this project's choice).
abbrev pub text_body : List ℕ → Encoding
text_body text = exactly text ▸ any (length text % 2) ▸ given (length text ≤ max_text_bytes)

-- The bytes after the three numbers.
abbrev pub text_bytes : Option (List ℕ) → Encoding
text_bytes None = nothing
text_bytes (Some text) = text_body text

-- The maximum count, cBytes, clSize and the bytes.
abbrev pub blob : Option (List ℕ) → Encoding
blob t = unit 4 (text_units t) ▸ unit 4 (text_len t) ▸ unit 4 (text_units t) ▸ text_bytes t

-- The bytes after a referent; a null referent is the null text.
abbrev pub pointee : Bool → Option (List ℕ) → Encoding
pointee true t = blob t
pointee false t = given (t ≡ None)

-- A referent and its pointee.
abbrev pub bstr : Option (List ℕ) → Encoding
bstr t = with referent (λ is_set. pointee is_set t)
