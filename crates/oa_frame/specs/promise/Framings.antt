-- Framings: how bodies are delimited in bytes, what ends them, and how replies are written (this project's choice).
use Rattle.std.specs.Prelude.{◌≡◌, ◌⊎◌, ℕ, ◌<◌, ◌≤◌, Bool, true, false, List, [], ◌∷◌, ◌++◌, length, IsErr, Ok, ⊤}
use Rattle.std.specs.Int.{w32, from_le_bytes, to_le_bytes}
use Rattle.hex.specs.Hex.{decode_of, encode_lower}
use Rattle.oa_model.specs.promise.Limits.{max_line_characters, max_request_bytes}
use Rattle.oa_frame.specs.declared.ends.End.{End}
use Rattle.oa_frame.specs.declared.ends.End.TheVariants as end
use Rattle.oa_frame.specs.declared.framing.Framing.{Framing}
use Rattle.oa_frame.specs.declared.framing.Framing.TheVariants.{HexLines, Records}
use Rattle.oa_frame.specs.promise.Lines.{FirstLine, IsLong, IsPartOfLine}

-- A framing. Next: the bytes begin with this body, and the rest follows it. Stop: with these bytes left, this ends
-- the bodies, and the other bytes are left after it was read. Can: this may end them at the body with this number,
-- whatever the reader returns. spelled: the bytes of a reply.
pub record Frames : Type 1 where
  pub Next : List ℕ → List ℕ → List ℕ → Type 0
  pub Stop : End → List ℕ → List ℕ → Type 0
  pub Can : ℕ → End → Type 0
  pub spelled : List ℕ → List ℕ

-- the first line is the digits of this body
pub record NextLine (bytes body rest : List ℕ) : Type 0 where
  pub line : List ℕ
  pub first : FirstLine bytes line rest
  pub some : 0 < length line
  pub short : length line ≤ max_line_characters
  pub digits : decode_of line ≡ Ok body

-- the first line is not hexadecimal
pub record IsBad (bytes rest : List ℕ) : Type 0 where
  pub line : List ℕ
  pub first : FirstLine bytes line rest
  pub short : length line ≤ max_line_characters
  pub digits : IsErr (decode_of line)

abbrev pub LineStop : End → List ℕ → List ℕ → Type 0
LineStop end.Closed bytes rest = ((bytes ≡ []) × (rest ≡ [])) ⊎ FirstLine bytes [] rest
LineStop end.Cut bytes rest = ⊥
LineStop end.TooLong bytes rest = IsLong bytes rest
LineStop (end.BadHex line) bytes rest = IsBad bytes rest
LineStop end.ReadFault bytes rest = IsPartOfLine bytes rest
LineStop end.WriteFault bytes rest = ⊥

abbrev pub LineCan : ℕ → End → Type 0
LineCan number end.Closed = ⊤
LineCan number end.Cut = ⊥
LineCan number end.TooLong = ⊤
LineCan number (end.BadHex line) = line ≡ number
LineCan number end.ReadFault = ⊤
LineCan number end.WriteFault = ⊥

-- a line of hexadecimal digits each; replies in lower case
abbrev pub hex_lines : Frames
hex_lines = record { Next = NextLine; Stop = LineStop; Can = LineCan; spelled = λ reply. encode_lower reply ++ 10 ∷ [] }

-- four bytes that encode this number, the lowest first
pub record SaysLength (head : List ℕ) (n : ℕ) : Type 0 where
  pub four : length head ≡ 4
  pub says : from_le_bytes w32 head ≡ n

-- a length above 0, and that many bytes
pub record NextRecord (bytes body rest : List ℕ) : Type 0 where
  pub head : List ℕ
  pub says : SaysLength head (length body)
  pub some : 0 < length body
  pub short : length body ≤ max_request_bytes
  pub whole : bytes ≡ head ++ (body ++ rest)

-- a length with this fact, and nothing more was read
pub record Length (fact : ℕ → Type 0) (bytes rest : List ℕ) : Type 0 where
  pub head : List ℕ
  pub n : ℕ
  pub says : SaysLength head n
  pub is : fact n
  pub whole : bytes ≡ head ++ rest

-- the input ends inside a record
pub record EndsInRecord (bytes rest : List ℕ) : Type 0 where
  pub nothing : rest ≡ []
  pub some : 0 < length bytes
  pub few : (length bytes < 4)
      ⊎ ((more : List ℕ) × Length (λ n. (0 < n) × (n ≤ max_request_bytes) × (length more < n)) bytes more)

-- only a part of the first record was read: of its length, or of the body after that
pub record IsPartOfRecord (bytes rest : List ℕ) : Type 0 where
  pub part : List ℕ
  pub whole : bytes ≡ part ++ rest
  pub few : (length part < 4) ⊎ ((more : List ℕ) × Length (λ n. (n ≤ max_request_bytes) × (length more < n)) part more)

abbrev pub RecordStop : End → List ℕ → List ℕ → Type 0
RecordStop end.Closed bytes rest = ((bytes ≡ []) × (rest ≡ [])) ⊎ Length (λ n. n ≡ 0) bytes rest
RecordStop end.Cut bytes rest = EndsInRecord bytes rest
RecordStop end.TooLong bytes rest = Length (λ n. max_request_bytes < n) bytes rest
RecordStop (end.BadHex line) bytes rest = ⊥
RecordStop end.ReadFault bytes rest = IsPartOfRecord bytes rest
RecordStop end.WriteFault bytes rest = ⊥

abbrev pub RecordCan : ℕ → End → Type 0
RecordCan number end.Closed = ⊤
RecordCan number end.Cut = ⊤
RecordCan number end.TooLong = ⊤
RecordCan number (end.BadHex line) = ⊥
RecordCan number end.ReadFault = ⊤
RecordCan number end.WriteFault = ⊥

-- each is a length, and that many bytes
abbrev pub records : Frames
records = record {
  Next = NextRecord;
  Stop = RecordStop;
  Can = RecordCan;
  spelled = λ reply. to_le_bytes w32 (length reply) ++ reply;
}

abbrev pub frames : Framing → Frames
frames HexLines = hex_lines
frames Records = records

abbrev pub is_read_fault : End → Bool
is_read_fault end.Closed = false
is_read_fault end.Cut = false
is_read_fault end.TooLong = false
is_read_fault (end.BadHex line) = false
is_read_fault end.ReadFault = true
is_read_fault end.WriteFault = false
