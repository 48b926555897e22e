-- Numbers over any list of deeds. (This project's choice.)
use Rattle.std.specs.Prelude.{◌≡◌, ◌⊎◌, ℕ, zero, suc, ◌+◌, List, [], ◌∷◌, ◌++◌, ⊤}
use Rattle.oa_mux.specs.promise.Frames.{InHead, pieces_in}
use Rattle.oa_mux.specs.promise.Marks.{Byte, Flush, Last, Of, States, StreamPiece, Tagged, tag_all, with_state_at}
use Rattle.oa_mux.specs.Marks.{pieces}
use Rattle.oa_gateway.specs.Frames.{gateway_number}
use Rattle.oa_gateway.specs.Places.{Closes, Deed, Dropped, Ended, Given, Hears, HearsEnd, Leaves, MayDo, Number, Sends}
use Rattle.oa_gateway.specs.Places.{Told, Wrong, after_deed, deed_outcome, puts}
use Rattle.oa_gateway.specs.declared.place.Standing.{Standing}
use Rattle.oa_gateway.specs.declared.place.Standing.TheVariants.{Absent, Present, Ending, Over}

-- ---- one number

unfoldable pub after_deeds : Number → List Deed → Number
after_deeds n [] = n
after_deeds n (deed ∷ deeds) = after_deeds (after_deed n deed) deeds

-- what goes to the server for it
unfoldable pub stream : Number → List Deed → List StreamPiece
stream n [] = []
stream n (deed ∷ deeds) = puts n.standing deed ++ stream (after_deed n deed) deeds

unfoldable pub AllMayBeDone : Number → List Deed → Type 0
AllMayBeDone n [] = ⊤
AllMayBeDone n (deed ∷ deeds) = MayDo n deed × AllMayBeDone (after_deed n deed) deeds

-- each frame of the server was for a client
unfoldable pub IsSound : Number → List Deed → Type 0
IsSound n [] = ⊤
IsSound n (deed ∷ deeds) = (deed_outcome n deed ≡ Wrong → ⊥) × IsSound (after_deed n deed) deeds

-- ---- one client, which has the number from the first deed on until it leaves

abbrev pub given_of : Told → List ℕ
given_of (Given bytes) = bytes
given_of Ended = []
given_of Dropped = []
given_of Wrong = []

-- what the client gets
unfoldable pub given_bytes : Number → List Deed → List ℕ
given_bytes n [] = []
given_bytes n (Sends bytes ∷ deeds) = given_bytes (after_deed n (Sends bytes)) deeds
given_bytes n (Closes ∷ deeds) = given_bytes (after_deed n Closes) deeds
given_bytes n (Leaves ∷ deeds) = []
given_bytes n (Hears bytes ∷ deeds) = given_of (deed_outcome n (Hears bytes)) ++ given_bytes
    (after_deed n (Hears bytes)) deeds
given_bytes n (HearsEnd ∷ deeds) = given_bytes (after_deed n HearsEnd) deeds

-- what the server sends for the number after this number of further ends, up to the next one
unfoldable pub said_behind : ℕ → List Deed → List ℕ
said_behind ends [] = []
said_behind ends (Sends bytes ∷ deeds) = said_behind ends deeds
said_behind ends (Closes ∷ deeds) = said_behind ends deeds
said_behind ends (Leaves ∷ deeds) = []
said_behind zero (Hears bytes ∷ deeds) = bytes ++ said_behind zero deeds
said_behind (suc ends) (Hears bytes ∷ deeds) = said_behind (suc ends) deeds
said_behind zero (HearsEnd ∷ deeds) = []
said_behind (suc ends) (HearsEnd ∷ deeds) = said_behind ends deeds

-- what was sent of it
abbrev pub sent_by : Deed → List ℕ
sent_by (Sends bytes) = bytes
sent_by Closes = []
sent_by Leaves = []
sent_by (Hears bytes) = []
sent_by HearsEnd = []

unfoldable pub sent : List Deed → List ℕ
sent [] = []
sent (deed ∷ deeds) = sent_by deed ++ sent deeds

-- it is there all the time
abbrev pub StaysPresent : Deed → Type 0
StaysPresent (Sends bytes) = ⊤
StaysPresent Closes = ⊤
StaysPresent Leaves = ⊥
StaysPresent (Hears bytes) = ⊤
StaysPresent HearsEnd = ⊤

unfoldable pub StaysThere : List Deed → Type 0
StaysThere [] = ⊤
StaysThere (deed ∷ deeds) = StaysPresent deed × StaysThere deeds

-- The stream of a client of which these bytes were sent: nothing, the bytes, or the bytes and one
-- end.
abbrev pub IsItsStream : Standing → List ℕ → List StreamPiece → Type 0
IsItsStream Absent bytes all = (bytes ≡ []) × (all ≡ [])
IsItsStream Present bytes all = all ≡ pieces bytes
IsItsStream Ending bytes all = all ≡ pieces bytes ++ Last ∷ []
IsItsStream Over bytes all = ((bytes ≡ []) × (all ≡ [])) ⊎ (all ≡ pieces bytes ++ Last ∷ [])

-- The stream of one that has gone: nothing, or the bytes and one end.
abbrev pub IsWholeStream : List ℕ → List StreamPiece → Type 0
IsWholeStream bytes all = ((bytes ≡ []) × (all ≡ [])) ⊎ (all ≡ pieces bytes ++ Last ∷ [])

-- ---- ends

abbrev pub ends_of : StreamPiece → ℕ
ends_of (Byte x) = 0
ends_of Last = 1

unfoldable pub ends_sent : List StreamPiece → ℕ
ends_sent [] = 0
ends_sent (piece ∷ all) = ends_of piece + ends_sent all

abbrev pub ends_by : Deed → ℕ
ends_by (Sends bytes) = 0
ends_by Closes = 0
ends_by Leaves = 0
ends_by (Hears bytes) = 0
ends_by HearsEnd = 1

unfoldable pub ends_heard : List Deed → ℕ
ends_heard [] = 0
ends_heard (deed ∷ deeds) = ends_by deed + ends_heard deeds

-- the ends that the server owes, also that of the client that has the number
abbrev pub own_end : Standing → ℕ
own_end Absent = 0
own_end Present = 0
own_end Ending = 1
own_end Over = 0

abbrev pub all_owed : Number → ℕ
all_owed n = own_end n.standing + n.owed

-- ---- all numbers

-- what goes to the server for all numbers, in order; after a batch the gateway ends, and sends
-- *now*
unfoldable pub streams : States Number → List (Tagged Deed) → List (Tagged StreamPiece)
streams numbers [] = []
streams numbers (Of number deed ∷ deeds) = tag_all number (puts (numbers number).standing deed)
    ++ streams (with_state_at number (after_deed (numbers number) deed) numbers) deeds
streams numbers (Flush ∷ deeds) = Of gateway_number Last ∷ Flush ∷ streams numbers deeds

-- demultiplexed as by the server, these bytes are these pieces, whatever follows
abbrev pub Says : List ℕ → List (Tagged StreamPiece) → Type 0
Says bytes all = (rest : List ℕ) → pieces_in (InHead []) (bytes ++ rest) ≡ all ++ pieces_in (InHead []) rest
