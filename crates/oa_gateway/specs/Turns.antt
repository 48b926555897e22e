-- Which requests of a client go into a batch. (This project's choice.)
use Rattle.std.specs.Prelude.{◌≡◌, ◌⊎◌, ◌<◌, ◌≤◌, ℕ, ◌+◌, ◌-◌, ◌*◌, ◌%◌, ◌==◌, Bool, true, false, if◌then◌else◌, ⊤}
use Rattle.std.specs.Prelude.{List, [], ◌∷◌, length, nat_lt, slice_range}
use Rattle.std.specs.Int.{w16, w32, from_le_bytes}
use Rattle.oa_gateway.specs.declared.turns.BatchLimits.{BatchLimits}
use Rattle.oa_gateway.specs.declared.turns.Taking.{Taking}
use Rattle.oa_gateway.specs.declared.turns.Taking.TheVariants.{Taken, Full, Often, Much, Lacks}

-- the opcode in a request's body, 0 if it has none
abbrev pub body_opcode : List ℕ → ℕ
body_opcode body = if nat_lt (length body) 8 then 0 else from_le_bytes w16 (slice_range body 4 6)

-- An INVOKE asks for something if it is a method or a get, the lowest two bits of its flags.
abbrev pub invoke_asks : List ℕ → Bool
invoke_asks body = if nat_lt (length body) 56 then false
    else if from_le_bytes w32 (slice_range body 52 56) % 4 == 0 then false else true

-- Whether a request asks for something, so that its reply may be long: an INVOKE of a method or a get, a get of an
-- element, a query of type information, and a list of objects do.
abbrev pub opcode_asks : ℕ → List ℕ → Bool
opcode_asks opcode body = if opcode == 4 then invoke_asks body else if opcode == 5 then true
    else if opcode == 10 then true else if opcode == 11 then true else false

abbrev pub asks : List ℕ → Bool
asks body = opcode_asks (body_opcode body) body

-- The decision on a request that asks for something. The first one of a batch may have a reply that
-- is longer than all replies of a batch may be, and has memory of its own.
abbrev pub taken_if_room : BatchLimits → Taking
taken_if_room t = if nat_lt t.room (t.expected + t.weight)
    then (if t.expected == 0 then (if t.first then Taken else Lacks) else Lacks) else Taken

abbrev pub asked : BatchLimits → Taking
asked t = if t.asks == 0 then Often else if t.weight == 0 then Taken else if t.expected == 0 then taken_if_room t
    else if nat_lt t.most (t.expected + t.weight) then Much else taken_if_room t

abbrev pub taking : BatchLimits → List ℕ → Taking
taking t body = if t.requests == 0 then Full else if t.bytes == 0 then Full else if asks body then asked t else Taken

-- the bytes that the batch still takes after a request, which has four more than its body
abbrev pub bytes_behind : BatchLimits → List ℕ → ℕ
bytes_behind t body = t.bytes - length body - 4

-- the turn after a request that is taken
abbrev pub behind_ask : BatchLimits → List ℕ → BatchLimits
behind_ask t body = record {
  requests = t.requests - 1;
  asks = t.asks - 1;
  bytes = bytes_behind t body;
  weight = t.weight;
  expected = t.expected + t.weight;
  most = t.most;
  room = t.room;
  first = t.first;
}

abbrev pub behind_other : BatchLimits → List ℕ → BatchLimits
behind_other t body = record {
  requests = t.requests - 1;
  asks = t.asks;
  bytes = bytes_behind t body;
  weight = t.weight;
  expected = t.expected;
  most = t.most;
  room = t.room;
  first = t.first;
}

abbrev pub behind_request : BatchLimits → List ℕ → BatchLimits
behind_request t body = if asks body then behind_ask t body else behind_other t body

-- the turn after a request, taken or not
abbrev pub behind_taking : Taking → BatchLimits → List ℕ → BatchLimits
behind_taking Taken t body = behind_request t body
behind_taking Full t body = t
behind_taking Often t body = t
behind_taking Much t body = t
behind_taking Lacks t body = t

-- ---- a whole turn

unfoldable pub AllTaken : BatchLimits → List (List ℕ) → Type 0
AllTaken t [] = ⊤
AllTaken t (body ∷ bodies) = (taking t body ≡ Taken) × AllTaken (behind_request t body) bodies

unfoldable pub after_requests : BatchLimits → List (List ℕ) → BatchLimits
after_requests t [] = t
after_requests t (body ∷ bodies) = after_requests (behind_request t body) bodies

unfoldable pub count_asks : List (List ℕ) → ℕ
count_asks [] = 0
count_asks (body ∷ bodies) = (if asks body then 1 else 0) + count_asks bodies

-- the bytes of these requests
unfoldable pub batch_bytes : List (List ℕ) → ℕ
batch_bytes [] = 0
batch_bytes (body ∷ bodies) = length body + 4 + batch_bytes bodies

-- The bytes of replies that a batch has after a turn: those that it had, if the turn asked for none
-- or they are not counted; at most the greatest number; or those of one reply.
abbrev pub RepliesAreBounded : BatchLimits → ℕ → Type 0
RepliesAreBounded t expected = (expected ≡ t.expected) ⊎ (expected ≤ t.most)
    ⊎ ((t.expected ≡ 0) × (expected ≡ t.weight))

-- The memory of these replies: it is there, or it is that of the first reply of a batch, which may
-- have its own.
abbrev pub ReplyRoomIsBounded : BatchLimits → ℕ → Type 0
ReplyRoomIsBounded t expected = (expected ≡ t.expected) ⊎ (expected ≤ t.room)
    ⊎ ((t.expected ≡ 0) × (t.first ≡ true) × (expected ≡ t.weight))

-- a client's turn is within its bounds
pub record IsBounded (t : BatchLimits) (bodies : List (List ℕ)) : Type 0 where
  pub requests : length bodies ≤ t.requests
  pub asks : count_asks bodies ≤ t.asks
  pub expected : (after_requests t bodies).expected ≡ t.expected + count_asks bodies * t.weight
  pub replies : RepliesAreBounded t (after_requests t bodies).expected
  pub room : ReplyRoomIsBounded t (after_requests t bodies).expected

-- ---- a whole batch

-- a turn of a batch, and the bodies of the requests that it takes
pub record OneTurn : Type 0 where
  pub turn : BatchLimits
  pub bodies : List (List ℕ)

-- The state of a batch before its first turn and after each: the numbers of further requests and
-- bytes that it takes, and the bytes of its replies, about.
pub record Batch : Type 0 where
  pub requests : ℕ
  pub bytes : ℕ
  pub expected : ℕ

-- a turn begins with what the turns before it left, or less, and takes these requests
pub record BeginsTurn (most : ℕ) (b : Batch) (t : OneTurn) : Type 0 where
  pub requests : t.turn.requests ≤ b.requests
  pub bytes : t.turn.bytes ≤ b.bytes
  pub expected : t.turn.expected ≡ b.expected
  pub limit : t.turn.most ≡ most
  pub taken : AllTaken t.turn t.bodies

abbrev pub behind_turn : Batch → OneTurn → Batch
behind_turn b t = record {
  requests = b.requests - length t.bodies;
  bytes = (after_requests t.turn t.bodies).bytes;
  expected = (after_requests t.turn t.bodies).expected;
}

-- these are the turns of a batch, one after another
unfoldable pub AreTurns : ℕ → Batch → List OneTurn → Type 0
AreTurns most b [] = ⊤
AreTurns most b (t ∷ turns) = BeginsTurn most b t × AreTurns most (behind_turn b t) turns

unfoldable pub behind_turns : Batch → List OneTurn → Batch
behind_turns b [] = b
behind_turns b (t ∷ turns) = behind_turns (behind_turn b t) turns

-- the requests of these turns, and their bytes
unfoldable pub requests_of : List OneTurn → ℕ
requests_of [] = 0
requests_of (t ∷ turns) = length t.bodies + requests_of turns

unfoldable pub bytes_of_turns : List OneTurn → ℕ
bytes_of_turns [] = 0
bytes_of_turns (t ∷ turns) = batch_bytes t.bodies + bytes_of_turns turns

-- no body has more bytes than this
unfoldable pub AreShort : ℕ → List (List ℕ) → Type 0
AreShort longest [] = ⊤
AreShort longest (body ∷ bodies) = (length body ≤ longest) × AreShort longest bodies

-- and no reply more than this, about
unfoldable pub AreWithin : ℕ → ℕ → List OneTurn → Type 0
AreWithin heaviest longest [] = ⊤
AreWithin heaviest longest (t ∷ turns) = (t.turn.weight ≤ heaviest) × AreShort longest t.bodies
    × AreWithin heaviest longest turns

-- A batch is within its bounds. These are of the number of requests; of their bytes, except for the
-- last request; and of the bytes of their replies, about, except for a single reply.
pub record IsBatchBounded (most heaviest longest : ℕ) (b : Batch) (turns : List OneTurn) : Type 0 where
  pub requests : requests_of turns ≤ b.requests
  pub bytes : bytes_of_turns turns < b.bytes + 4 + longest
  pub replies : ((behind_turns b turns).expected ≤ most) ⊎ ((behind_turns b turns).expected ≤ heaviest)
