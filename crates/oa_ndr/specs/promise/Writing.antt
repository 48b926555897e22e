-- Encoders as functions on lists: they append a part to the bytes of the field so far.
use Rattle.std.specs.Prelude.{ℕ, Bool, if◌then◌else◌, List, [], ◌∷◌, ◌++◌, length, replicate}
use Rattle.byteorder.specs.Endian.{little_bytes}
use Rattle.oa_ndr.specs.promise.Forms.{padding}

-- Appends zeros up to a multiple of n.
abbrev pub put_align : ℕ → List ℕ → List ℕ
put_align n out = out ++ replicate (padding n (length out)) 0

-- Appends these bytes at a multiple of n.
abbrev pub put_slot : ℕ → List ℕ → List ℕ → List ℕ
put_slot n text out = out ++ (replicate (padding n (length out)) 0 ++ text)

-- Appends the number x in n bytes, lowest byte first, at a multiple of n.
abbrev pub put_unit : ℕ → ℕ → List ℕ → List ℕ
put_unit n x out = put_slot n (little_bytes n x) out

-- Appends these bytes.
abbrev pub put_bytes : List ℕ → List ℕ → List ℕ
put_bytes text out = out ++ text

-- Appends the referent of a pointer, which is 0x00020000 if it is set (this project's choice).
abbrev pub put_referent : Bool → List ℕ → List ℕ
put_referent is_set out = put_unit 4 (if is_set then 131072 else 0) out

-- Appends the encodings of the values of a list, one after another.
abbrev pub put_all : {A : Type 0} → (A → List ℕ → List ℕ) → List A → List ℕ → List ℕ
put_all put [] out = out
put_all put (x ∷ xs) out = put_all put xs (put x out)
