-- Definitions for contracts and proofs, beside promise/Readers.
use Rattle.std.specs.Prelude.{ℕ, ◌+◌, ◌<◌, ◌≤◌, ◌≡◌, ◌⊎◌, if◌then◌else◌, Bool, List, [], ◌∷◌, ◌++◌, length, Option}
use Rattle.oa_model.specs.promise.Limits.{max_request_bytes}
use Rattle.oa_frame.specs.declared.ends.End.{End}
use Rattle.oa_frame.specs.declared.ends.End.TheVariants.{Closed, Cut, TooLong, BadHex, ReadFault, WriteFault}
use Rattle.oa_mux.specs.promise.Marks.{StreamPiece}
use Rattle.oa_mux.specs.Marks.{pieces}
use Rattle.oa_mux.specs.promise.Readers.{Brought, Reads, ClientState, said, records_of}
use Rattle.oa_mux.specs.promise.Readers.ClientState.{Held, Over}

-- the items in these pieces, and the state after them
unfoldable pub brought_in : {Z : Type 0} → Reads Z → Z → List StreamPiece → List Brought
brought_in reads at [] = []
brought_in reads at (piece ∷ rest) = (reads at piece).0 ++ brought_in reads (reads at piece).1 rest

unfoldable pub after_pieces : {Z : Type 0} → Reads Z → Z → List StreamPiece → Z
after_pieces reads at [] = at
after_pieces reads at (piece ∷ rest) = after_pieces reads (reads at piece).1 rest

-- the state of a client, given whether its end was read, and the bytes of its record
abbrev pub kept : Bool → List ℕ → ClientState
kept over part = if over then Over else Held part

-- the first bytes of an incomplete record
pub record IsBegun (bytes : List ℕ) : Type 0 where
  pub some : 0 < said bytes
  pub short : said bytes ≤ max_request_bytes
  pub few : length bytes < 4 + said bytes

abbrev pub IsPartRecord : List ℕ → Type 0
IsPartRecord bytes = (length bytes < 4) ⊎ IsBegun bytes

-- the bytes of a whole record, and of nothing more
pub record IsWholeRecord (bytes : List ℕ) : Type 0 where
  pub some : 0 < said bytes
  pub short : said bytes ≤ max_request_bytes
  pub all : length bytes ≡ 4 + said bytes

-- four bytes that end a stream
abbrev pub IsEnd : End → List ℕ → Type 0
IsEnd Closed bytes = (length bytes ≡ 4) × (said bytes ≡ 0)
IsEnd TooLong bytes = (length bytes ≡ 4) × (max_request_bytes < said bytes)
IsEnd Cut bytes = ⊥
IsEnd (BadHex line) bytes = ⊥
IsEnd ReadFault bytes = ⊥
IsEnd WriteFault bytes = ⊥

-- these bytes of a client in this state contain these items, and leave it in that state
pub record ClientBrings (at : Option ClientState) (bytes : List ℕ) (all : List Brought)
    (new : Option ClientState) : Type 0 where
  pub brought : brought_in records_of at (pieces bytes) ≡ all
  pub after : after_pieces records_of at (pieces bytes) ≡ new
