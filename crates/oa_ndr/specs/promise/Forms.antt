-- The encodings of values as bytes (C706 chapter 14, little-endian).
--
-- A form relates an offset, counted from the first byte of a field, to the bytes that begin there. The form of a value
-- is stated for decoding: these bytes encode this value. A part that is ignored may therefore be any bytes.
use Rattle.std.specs.Prelude.{◌≡◌, ℕ, ◌+◌, ◌-◌, ◌%◌, ◌==◌, Bool, not, if◌then◌else◌, List, [], ◌∷◌, ◌++◌, length, drop}
use Rattle.byteorder.specs.Endian.{little_number}

-- A set of byte sequences for each offset at which they may begin.
abbrev pub Encoding : Type 1
Encoding = ℕ → List ℕ → Type 0

-- The number of bytes between an offset and the next multiple of n (C706 14.2.2).
abbrev pub padding : ℕ → ℕ → ℕ
padding n place = if place % n == 0 then 0 else n - place % n

-- A sequence of the first form followed by one of the second.
pub record Then (F G : ℕ → List ℕ → Type 0) (place : ℕ) (bytes : List ℕ) : Type 0 where
  pub front : List ℕ
  pub back : List ℕ
  pub parts : bytes ≡ front ++ back
  pub first : F place front
  pub second : G (place + length front) back

infixr 5 ◌▸◌
abbrev pub ◌▸◌ : Encoding → Encoding → Encoding
F ▸ G = Then F G

-- No bytes.
abbrev pub nothing : Encoding
nothing place bytes = bytes ≡ []

-- Padding up to a multiple of n, with any content.
abbrev pub align : ℕ → Encoding
align n place bytes = length bytes ≡ padding n place

-- n bytes at a multiple of n; they and the padding before them have any content.
abbrev pub ignored : ℕ → Encoding
ignored n place bytes = length bytes ≡ padding n place + n

-- The number x in n bytes at a multiple of n, lowest byte first.
pub record unit (n x : ℕ) (place : ℕ) (bytes : List ℕ) : Type 0 where
  pub len : length bytes ≡ padding n place + n
  pub value : little_number n (drop (padding n place) bytes) ≡ x

-- Exactly these bytes.
abbrev pub exactly : List ℕ → Encoding
exactly text place bytes = bytes ≡ text

-- n bytes with any content.
abbrev pub any : ℕ → Encoding
any n place bytes = length bytes ≡ n

-- A sequence that encodes some value, followed by one whose form may depend on this value.
pub record with {A : Type 0} (F G : A → ℕ → List ℕ → Type 0) (place : ℕ) (bytes : List ℕ) : Type 0 where
  pub value : A
  pub form : Then (F value) (G value) place bytes

-- No bytes, and a fact.
pub record given (P : Type 0) (place : ℕ) (bytes : List ℕ) : Type 0 where
  pub fact : P
  pub none : bytes ≡ []

-- The referent of a unique pointer that is set, or is null (C706 14.3.12).
abbrev pub referent : Bool → Encoding
referent is_set = with (unit 4) (λ number. given (is_set ≡ not (number == 0)))

-- The encodings of the values of a list, one after another.
abbrev pub each : {A : Type 0} → (A → Encoding) → List A → Encoding
each F [] = nothing
each F (x ∷ xs) = F x ▸ each F xs

-- The encodings of the pairs of two lists of the same length, one after another.
abbrev pub pairwise : {A B : Type 0} → (A → B → Encoding) → List A → List B → Encoding
pairwise F [] [] = nothing
pairwise F (x ∷ xs) (y ∷ ys) = F x y ▸ pairwise F xs ys
pairwise F [] (y ∷ ys) = given ⊥
pairwise F (x ∷ xs) [] = given ⊥

-- A sequence that encodes some value of which `make` makes c.
pub record made {A C : Type 0} (make : A → C) (F : A → ℕ → List ℕ → Type 0) (c : C) (place : ℕ)
    (bytes : List ℕ) : Type 0 where
  pub value : A
  pub is : make value ≡ c
  pub form : F value place bytes
