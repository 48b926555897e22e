-- The deeds for one number of the server, which serves one client of the gateway after another.
-- (This project's choice.)
use Rattle.std.specs.Prelude.{◌≡◌, ◌⊎◌, ◌<◌, ℕ, ◌+◌, ◌-◌, ◌==◌, if◌then◌else◌, List, [], ◌∷◌, length}
use Rattle.std.specs.Prelude.{slice_index_or, ⊤}
use Rattle.oa_mux.specs.promise.Marks.{StreamPiece, Last}
use Rattle.oa_mux.specs.Marks.{pieces}
use Rattle.oa_gateway.specs.declared.place.NumberState.{NumberState}
use Rattle.oa_gateway.specs.declared.place.Standing.{Standing}
use Rattle.oa_gateway.specs.declared.place.Standing.TheVariants.{Absent, Present, Ending, Over}

-- the state of the number's present client at the server, and the number of ends that the server
-- owes to clients that had the number before and have gone
pub record Number : Type 0 where
  pub standing : Standing
  pub owed : ℕ

-- The deeds. Some bytes of the client are sent; it sends nothing more; it has gone, and the number
-- is the next client's. The server sends a frame of replies for the number; it sends the frame of
-- an end.
pub data Deed : Type 0 where
  Sends : List ℕ → Deed
  Closes : Deed
  Leaves : Deed
  Hears : List ℕ → Deed
  HearsEnd : Deed

-- nothing is sent of a client after its end
abbrev pub MayDo : Number → Deed → Type 0
MayDo n (Sends bytes) = (n.standing ≡ Absent) ⊎ (n.standing ≡ Present)
MayDo n Closes = ⊤
MayDo n Leaves = ⊤
MayDo n (Hears bytes) = ⊤
MayDo n HearsEnd = ⊤

abbrev pub stands : ℕ → Standing → Deed → Standing
stands owed Absent (Sends bytes) = Present
stands owed Absent Closes = Over
stands owed Absent Leaves = Absent
stands owed Absent (Hears bytes) = Absent
stands owed Absent HearsEnd = Absent
stands owed Present (Sends bytes) = Present
stands owed Present Closes = Ending
stands owed Present Leaves = Absent
stands owed Present (Hears bytes) = Present
stands owed Present HearsEnd = Present
stands owed Ending (Sends bytes) = Ending
stands owed Ending Closes = Ending
stands owed Ending Leaves = Absent
stands owed Ending (Hears bytes) = Ending
stands owed Ending HearsEnd = if owed == 0 then Over else Ending
stands owed Over (Sends bytes) = Over
stands owed Over Closes = Over
stands owed Over Leaves = Absent
stands owed Over (Hears bytes) = Over
stands owed Over HearsEnd = Over

-- an end that was sent is owed from the client's going on
abbrev pub owes_more : Standing → ℕ
owes_more Absent = 0
owes_more Present = 1
owes_more Ending = 1
owes_more Over = 0

abbrev pub owes : ℕ → Standing → Deed → ℕ
owes owed s (Sends bytes) = owed
owes owed s Closes = owed
owes owed s Leaves = owed + owes_more s
owes owed s (Hears bytes) = owed
owes owed s HearsEnd = owed - 1

abbrev pub after_deed : Number → Deed → Number
after_deed n deed = record { standing = stands n.owed n.standing deed; owed = owes n.owed n.standing deed }

-- what goes to the server for the number
abbrev pub puts : Standing → Deed → List StreamPiece
puts Absent (Sends bytes) = pieces bytes
puts Absent Closes = []
puts Absent Leaves = []
puts Absent (Hears bytes) = []
puts Absent HearsEnd = []
puts Present (Sends bytes) = pieces bytes
puts Present Closes = Last ∷ []
puts Present Leaves = Last ∷ []
puts Present (Hears bytes) = []
puts Present HearsEnd = []
puts Ending deed = []
puts Over deed = []

-- The decision on a frame of the server. Its replies or its end go to the client that has the
-- number now; it is for a client that has gone; or it is for no client.
pub data Told : Type 0 where
  Given : List ℕ → Told
  Ended : Told
  Dropped : Told
  Wrong : Told

abbrev pub hears_own : Standing → List ℕ → Told
hears_own Absent bytes = Wrong
hears_own Present bytes = Given bytes
hears_own Ending bytes = Given bytes
hears_own Over bytes = Wrong

abbrev pub hears_own_end : Standing → Told
hears_own_end Absent = Wrong
hears_own_end Present = Wrong
hears_own_end Ending = Ended
hears_own_end Over = Wrong

-- the server answers the clients of a number one after another, each up to its end
abbrev pub deed_outcome : Number → Deed → Told
deed_outcome n (Sends bytes) = Dropped
deed_outcome n Closes = Dropped
deed_outcome n Leaves = Dropped
deed_outcome n (Hears bytes) = if n.owed == 0 then hears_own n.standing bytes else Dropped
deed_outcome n HearsEnd = if n.owed == 0 then hears_own_end n.standing else Dropped

-- ---- as a place keeps it

abbrev pub standing_of : ℕ → Standing
standing_of presence = if presence == 0 then Absent else if presence == 1 then Present
    else if presence == 2 then Ending else Over

abbrev pub place_number : NumberState → Number
place_number place = record { standing = standing_of place.presence; owed = place.owed }

-- another server was started: it owes nothing, and receives nothing more of a client that was there
abbrev pub begins_again : Standing → Standing
begins_again Absent = Absent
begins_again Present = Over
begins_again Ending = Over
begins_again Over = Over

abbrev pub restarted : Number → Number
restarted n = record { standing = begins_again n.standing; owed = 0 }

pub record AllRestarted (old new : List NumberState) : Type 0 where
  pub count : length new ≡ length old
  pub each : (at : ℕ) (other : NumberState) → at < length old
      → place_number (slice_index_or new at other) ≡ restarted (place_number (slice_index_or old at other))
