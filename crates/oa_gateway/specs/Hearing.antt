-- The decisions on the server's frames. (This project's choice.)
use Rattle.std.specs.Prelude.{◌≡◌, ◌⊎◌, ◌<◌, ◌≤◌, ℕ, ◌+◌, List, [], ◌∷◌, ◌++◌, length, take, drop, Some}
use Rattle.std.specs.Prelude.{slice_get, slice_set}
use Rattle.std.specs.Int.{w32, from_le_bytes}
use Rattle.oa_mux.specs.promise.Frames.{frame_of}
use Rattle.oa_gateway.specs.Frames.{gateway_number}
use Rattle.oa_gateway.specs.Places.{Deed, Dropped, Ended, Given, Hears, HearsEnd, Number, Told, Wrong, after_deed}
use Rattle.oa_gateway.specs.Places.{place_number}
use Rattle.oa_gateway.specs.Places.{deed_outcome}
use Rattle.oa_gateway.specs.declared.place.NumberState.{NumberState}
use Rattle.oa_gateway.specs.declared.place.Fate.{Fate}
use Rattle.oa_gateway.specs.declared.place.Fate.TheVariants as fate
use Rattle.oa_gateway.specs.declared.hearing.Heard.{Heard}
use Rattle.oa_gateway.specs.declared.hearing.Heard.TheVariants as heard

-- These bytes begin with a frame of this number, with these contents. The number and the length
-- have four bytes each.
pub record FirstFrame (bytes : List ℕ) (number : ℕ) (inside : List ℕ) : Type 0 where
  pub client : number < 4294967296
  pub short : length inside < 4294967296
  pub rest : List ℕ
  pub whole : bytes ≡ frame_of number inside ++ rest

-- these bytes are no whole frame
abbrev pub IsPartFrame : List ℕ → Type 0
IsPartFrame bytes = (length bytes < 8) ⊎ (length bytes < 8 + from_le_bytes w32 (take 4 (drop 4 bytes)))

-- an empty frame is an end
abbrev pub deed_of : List ℕ → Deed
deed_of [] = HearsEnd
deed_of (x ∷ xs) = Hears (x ∷ xs)

-- the decision on replies, whatever they are, and on an end
abbrev pub what_of : Fate → List ℕ → Told
what_of fate.Given inside = Given inside
what_of fate.Ended inside = Ended
what_of fate.Dropped inside = Dropped
what_of fate.Wrong inside = Wrong

abbrev pub Becomes : Fate → Number → Type 0
Becomes f n = (inside : List ℕ) → deed_outcome n (Hears inside) ≡ what_of f inside

abbrev pub EndBecomes : Fate → Number → Type 0
EndBecomes f n = deed_outcome n HearsEnd ≡ what_of f []

-- this frame comes for a number, which is that of a place, and nothing else changes
pub record HearsAt (number : ℕ) (deed : Deed) (what : Told) (old new : List NumberState) : Type 0 where
  pub place : NumberState
  pub is : slice_get old number ≡ Some place
  pub says : deed_outcome (place_number place) deed ≡ what
  pub place' : NumberState
  pub goes : place_number place' ≡ after_deed (place_number place) deed
  pub others : new ≡ slice_set old number place'

-- it is for no client
pub record IsNobodys (number : ℕ) (deed : Deed) (places : List NumberState) : Type 0 where
  pub place : NumberState
  pub is : slice_get places number ≡ Some place
  pub says : deed_outcome (place_number place) deed ≡ Wrong

abbrev pub HeardReplies : Heard → ℕ → List ℕ → List NumberState → Type 0
HeardReplies heard.More number inside places = ⊥
HeardReplies heard.Answered number inside places = ⊥
HeardReplies (heard.Given client count) number inside places = (client ≡ number) × (count ≡ length inside)
    × HearsAt number (Hears inside) (Given inside) places places
HeardReplies (heard.Ended client) number inside places = ⊥
HeardReplies (heard.Dropped client count) number inside places = (client ≡ number) × (count ≡ length inside)
    × HearsAt number (Hears inside) Dropped places places
HeardReplies heard.Wrong number inside places = IsNobodys number (Hears inside) places

abbrev pub HeardEnd : Heard → ℕ → List NumberState → List NumberState → Type 0
HeardEnd heard.More number old new = ⊥
HeardEnd heard.Answered number old new = ⊥
HeardEnd (heard.Given client count) number old new = ⊥
HeardEnd (heard.Ended client) number old new = (client ≡ number) × HearsAt number HearsEnd Ended old new
HeardEnd (heard.Dropped client count) number old new = (client ≡ number) × (count ≡ 0)
    × HearsAt number HearsEnd Dropped old new
HeardEnd heard.Wrong number old new = IsNobodys number HearsEnd old × (new ≡ old)

-- the first frame is for no client, and is not the gateway's own end
pub record MakesNoSense (bytes : List ℕ) (places : List NumberState) : Type 0 where
  pub number : ℕ
  pub inside : List ℕ
  pub first : FirstFrame bytes number inside
  pub nobody : (length places ≤ number) ⊎ IsNobodys number (deed_of inside) places
  pub other : FirstFrame bytes gateway_number [] → ⊥

-- the first frame is one of this number with these contents, and has this decision
pub record HearsFrame (number : ℕ) (inside : List ℕ) (what : Told) (bytes : List ℕ) (old new : List NumberState)
    : Type 0 where
  pub first : FirstFrame bytes number inside
  pub heard : HearsAt number (deed_of inside) what old new

abbrev pub Hearing : Heard → List ℕ → List NumberState → List NumberState → Type 0
Hearing heard.More bytes old new = IsPartFrame bytes × (new ≡ old)
Hearing heard.Answered bytes old new = FirstFrame bytes gateway_number [] × (new ≡ old)
Hearing (heard.Given client count) bytes old new = (inside : List ℕ) × (length inside ≡ count)
    × HearsFrame client inside (Given inside) bytes old new
Hearing (heard.Ended client) bytes old new = HearsFrame client [] Ended bytes old new
Hearing (heard.Dropped client count) bytes old new = (inside : List ℕ) × (length inside ≡ count)
    × HearsFrame client inside Dropped bytes old new
Hearing heard.Wrong bytes old new = MakesNoSense bytes old × (new ≡ old)
