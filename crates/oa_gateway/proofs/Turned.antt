-- A client's turn.
use Rattle.std.proofs.Common.{◌≡◌, ◌⊎◌, inl, inr, ◌<◌, ◌≤◌, ℕ, zero, suc, ◌+◌, ◌-◌, ◌*◌, Bool, true, false, if◌then◌else◌, List, [], ◌∷◌, length, refl, ◌∙◌}
use Rattle.std.proofs.Common.{arith}
use Rattle.std.specs.Prelude.{◌==◌, nat_lt}
use Rattle.std.proofs.lemmas.Bool.{eqb-true, ltb-false}
use Rattle.oa_gateway.specs.Turns.{AllTaken, AreShort, AreTurns, AreWithin, Batch, IsBatchBounded, IsBounded, RepliesAreBounded, ReplyRoomIsBounded, OneTurn}
use Rattle.oa_gateway.specs.Turns.{asked, asks, after_requests, behind_ask, behind_other, behind_request, behind_turn, behind_turns, batch_bytes}
use Rattle.oa_gateway.specs.Turns.{bytes_of_turns, count_asks, taken_if_room, requests_of, taking}
use Rattle.oa_gateway.specs.declared.turns.BatchLimits.{BatchLimits}
use Rattle.oa_gateway.specs.declared.turns.Taking.{Taking}
use Rattle.oa_gateway.specs.declared.turns.Taking.TheVariants.{Taken, Full, Often, Much, Lacks}

-- ---- what a taken request says of its turn

-- its reply is not counted, or it is the first one or does not exceed what a batch may have; and it has room
record Fit (t : BatchLimits) : Type 0 where
  replies : (t.weight ≡ 0) ⊎ (t.expected ≡ 0) ⊎ (t.expected + t.weight ≤ t.most)
  room : (t.weight ≡ 0) ⊎ (t.expected + t.weight ≤ t.room) ⊎ ((t.expected ≡ 0) × (t.first ≡ true))

full_or : (b : Bool) (x : Taking) → (if b then Full else x) ≡ Taken → (b ≡ false) × (x ≡ Taken)
full_or true x e = absurd cc
full_or false x e = (refl, e)

often_or : (b : Bool) (x : Taking) → (if b then Often else x) ≡ Taken → (b ≡ false) × (x ≡ Taken)
often_or true x e = absurd cc
often_or false x e = (refl, e)

much_or : (b : Bool) (x : Taking) → (if b then Much else x) ≡ Taken → (b ≡ false) × (x ≡ Taken)
much_or true x e = absurd cc
much_or false x e = (refl, e)

either : (b : Bool) (x y : Taking) → (if b then x else y) ≡ Taken → ((b ≡ true) × (x ≡ Taken)) ⊎ ((b ≡ false) × (y ≡ Taken))
either true x y e = inl (refl, e)
either false x y e = inr (refl, e)

lone : (b f : Bool) → (if b then (if f then Taken else Lacks) else Lacks) ≡ Taken → (b ≡ true) × (f ≡ true)
lone true true e = (refl, refl)
lone true false e = absurd cc
lone false f e = absurd cc

has_room : (t : BatchLimits) → taken_if_room t ≡ Taken → (t.expected + t.weight ≤ t.room) ⊎ ((t.expected ≡ 0) × (t.first ≡ true))
has_room t e = by (either (nat_lt t.room (t.expected + t.weight)) _ Taken e)
  where
    by : ((nat_lt t.room (t.expected + t.weight) ≡ true) × ((if t.expected == 0 then (if t.first then Taken else Lacks) else Lacks) ≡ Taken))
        ⊎ ((nat_lt t.room (t.expected + t.weight) ≡ false) × (Taken ≡ Taken)) → (t.expected + t.weight ≤ t.room) ⊎ ((t.expected ≡ 0) × (t.first ≡ true))
    by (inl h) = let l = lone (t.expected == 0) t.first h.1 in inr (eqb-true t.expected 0 l.0, l.1)
    by (inr h) = inl (ltb-false t.room (t.expected + t.weight) h.0)

fit_much : (t : BatchLimits) → (if nat_lt t.most (t.expected + t.weight) then Much else taken_if_room t) ≡ Taken → Fit t
fit_much t e =
    let m = much_or (nat_lt t.most (t.expected + t.weight)) (taken_if_room t) e in
    record { replies = inr (inr (ltb-false t.most (t.expected + t.weight) m.0)); room = inr (has_room t m.1) }

fit_first : (t : BatchLimits) (b : Bool) → (b ≡ true → t.expected ≡ 0)
    → (if b then taken_if_room t else if nat_lt t.most (t.expected + t.weight) then Much else taken_if_room t) ≡ Taken → Fit t
fit_first t true none e = record { replies = inr (inl (none refl)); room = inr (has_room t e) }
fit_first t false none e = fit_much t e

fit_light : (t : BatchLimits) (b : Bool) → (b ≡ true → t.weight ≡ 0)
    → (if b then Taken else if t.expected == 0 then taken_if_room t else if nat_lt t.most (t.expected + t.weight) then Much else taken_if_room t) ≡ Taken
    → Fit t
fit_light t true none e = record { replies = inl (none refl); room = inl (none refl) }
fit_light t false none e = fit_first t (t.expected == 0) (λ h. eqb-true t.expected 0 h) e

above_none : (n : ℕ) → (n == 0) ≡ false → 0 < n
above_none zero e = absurd cc
above_none (suc n) e = omega arith

asked_fits : (t : BatchLimits) → asked t ≡ Taken → (0 < t.asks) × Fit t
asked_fits t e =
    let one = often_or (t.asks == 0) _ e in
    (above_none t.asks one.0, fit_light t (t.weight == 0) (λ h. eqb-true t.weight 0 h) one.1)

-- ---- bounds

sums : (e w n : ℕ) → e + w + n * w ≡ e + (1 + n) * w
sums e w n = omega arith

no_more : (e w n : ℕ) → e + n * w ≡ e + (0 + n) * w
no_more e w n = omega arith

replies_ask : (t : BatchLimits) (body : List ℕ) (expected : ℕ) → Fit t → RepliesAreBounded (behind_ask t body) expected → RepliesAreBounded t expected
replies_ask t body expected fit (inl h) = by fit.replies
  where
    by : (t.weight ≡ 0) ⊎ (t.expected ≡ 0) ⊎ (t.expected + t.weight ≤ t.most) → RepliesAreBounded t expected
    by (inl none) = inl (omega (arith, h, none))
    by (inr (inl first)) = inr (inr (first, omega (arith, h, first)))
    by (inr (inr few)) = inr (inl (omega (arith, h, few)))
replies_ask t body expected fit (inr (inl h)) = inr (inl h)
replies_ask t body expected fit (inr (inr h)) = let z = h.0 in inr (inr (omega (arith, z), h.1))

room_ask : (t : BatchLimits) (body : List ℕ) (expected : ℕ) → Fit t → ReplyRoomIsBounded (behind_ask t body) expected → ReplyRoomIsBounded t expected
room_ask t body expected fit (inl h) = by fit.room
  where
    by : (t.weight ≡ 0) ⊎ (t.expected + t.weight ≤ t.room) ⊎ ((t.expected ≡ 0) × (t.first ≡ true)) → ReplyRoomIsBounded t expected
    by (inl none) = inl (omega (arith, h, none))
    by (inr (inl few)) = inr (inl (omega (arith, h, few)))
    by (inr (inr first)) = let z = first.0 in inr (inr (z, first.1, omega (arith, h, z)))
room_ask t body expected fit (inr (inl h)) = inr (inl h)
room_ask t body expected fit (inr (inr h)) = let z = h.0 in inr (inr (omega (arith, z), h.1, h.2))

-- one more request, which asks for something or not
one_more : (t : BatchLimits) (body : List ℕ) (b : Bool) (n count last : ℕ) → 0 < t.requests → (if b then asked t else Taken) ≡ Taken
    → n ≤ (if b then behind_ask t body else behind_other t body).requests
    → count ≤ (if b then behind_ask t body else behind_other t body).asks
    → last ≡ (if b then behind_ask t body else behind_other t body).expected + count * (if b then behind_ask t body else behind_other t body).weight
    → RepliesAreBounded (if b then behind_ask t body else behind_other t body) last
    → ReplyRoomIsBounded (if b then behind_ask t body else behind_other t body) last
    → (suc n ≤ t.requests) × ((if b then 1 else 0) + count ≤ t.asks) × (last ≡ t.expected + ((if b then 1 else 0) + count) * t.weight)
    × RepliesAreBounded t last × ReplyRoomIsBounded t last
one_more t body true n count last some e a b c d f =
    let fit = asked_fits t e in
    let ask = fit.0 in
    (omega (arith, some, a), omega (arith, ask, b), c ∙ sums t.expected t.weight count, replies_ask t body last fit.1 d, room_ask t body last fit.1 f)
one_more t body false n count last some e a b c d f = (omega (arith, some, a), omega (arith, b), c ∙ no_more t.expected t.weight count, d, f)

pub is_bounded : (t : BatchLimits) (bodies : List (List ℕ)) → AllTaken t bodies → IsBounded t bodies
unfolding AllTaken after_requests count_asks
is_bounded t [] all = record { requests = omega arith; asks = omega arith; expected = omega arith; replies = inl refl; room = inl refl }
is_bounded t (body ∷ bodies) all =
    let rest = is_bounded (behind_request t body) bodies all.1 in
    let full = full_or (t.requests == 0) (if t.bytes == 0 then Full else if asks body then asked t else Taken) all.0 in
    let short = full_or (t.bytes == 0) (if asks body then asked t else Taken) full.1 in
    let more = one_more t body (asks body) (length bodies) (count_asks bodies) (after_requests (behind_request t body) bodies).expected
    (above_none t.requests full.0) short.1
    rest.requests rest.asks rest.expected rest.replies rest.room in
    record { requests = more.0; asks = more.1; expected = more.2; replies = more.3; room = more.4 }

-- ---- a whole batch

-- So many bytes of requests leave so many of those that a batch took before; the last one may have had more.
abbrev HasFilled : ℕ → ℕ → ℕ → ℕ → Type 0
HasFilled longest before total left = (total + left ≤ before) ⊎ ((left ≡ 0) × (0 < before) × (total < before + 4 + longest))

at_most_or : (a b : ℕ) → (a ≤ b) ⊎ (b < a)
at_most_or zero b = inl (omega arith)
at_most_or (suc a) zero = inr (omega arith)
at_most_or (suc a) (suc b) = by (at_most_or a b)
  where
    by : (a ≤ b) ⊎ (b < a) → (suc a ≤ suc b) ⊎ (suc b < suc a)
    by (inl h) = inl (omega (arith, h))
    by (inr h) = inr (omega (arith, h))

fills : (longest before size total left between : ℕ) → 0 < before → size ≤ longest → between ≡ before - size - 4 → HasFilled longest between total left
    → HasFilled longest before (size + 4 + total) left
fills longest before size total left between some short e (inl h) = by (at_most_or (size + 4) before)
  where
    by : (size + 4 ≤ before) ⊎ (before < size + 4) → HasFilled longest before (size + 4 + total) left
    by (inl k) = inl (omega (arith, h, k, e))
    by (inr k) = inr (omega (arith, h, k, e), some, omega (arith, h, k, e, some, short))
fills longest before size total left between some short e (inr h) =
    let a = h.1 in
    let b = h.2 in
    inr (h.0, some, omega (arith, a, b, e))

bytes_after : (t : BatchLimits) (body : List ℕ) (b : Bool) → (if b then behind_ask t body else behind_other t body).bytes ≡ t.bytes - length body - 4
bytes_after t body true = refl
bytes_after t body false = refl

filled : (longest : ℕ) (t : BatchLimits) (bodies : List (List ℕ)) → AllTaken t bodies → AreShort longest bodies
    → HasFilled longest t.bytes (batch_bytes bodies) (after_requests t bodies).bytes
unfolding AllTaken AreShort after_requests batch_bytes
filled longest t [] all are = inl (omega arith)
filled longest t (body ∷ bodies) all are =
    let full = full_or (t.requests == 0) (if t.bytes == 0 then Full else if asks body then asked t else Taken) all.0 in
    let some = full_or (t.bytes == 0) (if asks body then asked t else Taken) full.1 in
    fills longest t.bytes (length body) (batch_bytes bodies) (after_requests (behind_request t body) bodies).bytes (behind_request t body).bytes
    (above_none t.bytes some.0) are.0
    (bytes_after t body (asks body)) (filled longest (behind_request t body) bodies all.1 are.1)

more_before : (longest less before total left : ℕ) → less ≤ before → HasFilled longest less total left → HasFilled longest before total left
more_before longest less before total left few (inl h) = inl (omega (arith, few, h))
more_before longest less before total left few (inr h) =
    let a = h.1 in
    let b = h.2 in
    inr (h.0, omega (arith, few, a), omega (arith, few, b))

-- one turn, and those after it
in_turn : (longest before one between others left : ℕ) → HasFilled longest before one between → HasFilled longest between others left
    → HasFilled longest before (one + others) left
in_turn longest before one between others left (inl h) (inl k) = inl (omega (arith, h, k))
in_turn longest before one between others left (inl h) (inr k) =
    let a = k.1 in
    let b = k.2 in
    inr (k.0, omega (arith, h, a), omega (arith, h, b))
in_turn longest before one between others left (inr h) (inl k) =
    let a = h.0 in
    let b = h.2 in
    inr (omega (arith, a, k), h.1, omega (arith, a, b, k))
in_turn longest before one between others left (inr h) (inr k) =
    let a = h.0 in
    let b = k.1 in
    absurd (omega (arith, a, b))

abbrev AreFew : ℕ → ℕ → ℕ → Type 0
AreFew most heaviest expected = (expected ≤ most) ⊎ (expected ≤ heaviest)

still_few : (most heaviest before last : ℕ) (t : BatchLimits) → t.expected ≡ before → t.most ≡ most → t.weight ≤ heaviest → AreFew most heaviest before
    → RepliesAreBounded t last → AreFew most heaviest last
still_few most heaviest before last t e limit light (inl few) (inl h) = inl (omega (arith, e, few, h))
still_few most heaviest before last t e limit light (inr few) (inl h) = inr (omega (arith, e, few, h))
still_few most heaviest before last t e limit light few (inr (inl h)) = inl (omega (arith, h, limit))
still_few most heaviest before last t e limit light few (inr (inr h)) =
    let a = h.1 in
    inr (omega (arith, a, light))

turns_go : (most heaviest longest : ℕ) (b : Batch) (turns : List OneTurn) → AreFew most heaviest b.expected → AreTurns most b turns
    → AreWithin heaviest longest turns
    → (requests_of turns ≤ b.requests) × HasFilled longest b.bytes (bytes_of_turns turns) (behind_turns b turns).bytes
    × AreFew most heaviest (behind_turns b turns).expected
unfolding AreTurns AreWithin behind_turns requests_of bytes_of_turns
turns_go most heaviest longest b [] few are within = (omega arith, inl (omega arith), few)
turns_go most heaviest longest b (t ∷ turns) few are within =
    let begins = are.0 in
    let turn = is_bounded t.turn t.bodies begins.taken in
    let bytes = more_before longest t.turn.bytes b.bytes (batch_bytes t.bodies) (after_requests t.turn t.bodies).bytes begins.bytes
    (filled longest t.turn t.bodies begins.taken within.1) in
    let few' = still_few most heaviest b.expected (after_requests t.turn t.bodies).expected t.turn begins.expected begins.limit within.0 few turn.replies in
    let rest = turns_go most heaviest longest (behind_turn b t) turns few' are.1 within.2 in
    let m = begins.requests in
    let n = turn.requests in
    let k = rest.0 in (
      omega (arith, k, m, n),
      in_turn longest b.bytes (batch_bytes t.bodies) (after_requests t.turn t.bodies).bytes (bytes_of_turns turns)
          (behind_turns (behind_turn b t) turns).bytes bytes rest.1,
      rest.2,
    )

fewer : (longest before total left : ℕ) → HasFilled longest before total left → total < before + 4 + longest
fewer longest before total left (inl h) = omega (arith, h)
fewer longest before total left (inr h) = h.2

pub is_batch_bounded : (most heaviest longest : ℕ) (b : Batch) (turns : List OneTurn) → b.expected ≡ 0 → AreTurns most b turns
    → AreWithin heaviest longest turns → IsBatchBounded most heaviest longest b turns
is_batch_bounded most heaviest longest b turns none are within =
    let all = turns_go most heaviest longest b turns (inl (omega (arith, none))) are within in
    record { requests = all.0; bytes = fewer longest b.bytes (bytes_of_turns turns) (behind_turns b turns).bytes all.1; replies = all.2 }

-- ---- progress

pub not_full : (n : ℕ) → 0 < n → (n == 0) ≡ false
not_full zero h = absurd (omega (arith, h))
not_full (suc n) h = search (arith, h)

first_fits : (t : BatchLimits) (b : Bool) → t.first ≡ true → (if b then (if t.first then Taken else Lacks) else Taken) ≡ Taken
first_fits t true first = rw first refl
first_fits t false first = refl

pub first_is_taken : (t : BatchLimits) (body : List ℕ) → 0 < t.requests → 0 < t.bytes → 0 < t.asks → t.expected ≡ 0 → t.first ≡ true → taking t body ≡ Taken
first_is_taken t body some bytes_some asks_some none first = rw (not_full t.requests some, not_full t.bytes bytes_some) (by (asks body))
  where
    light : (b : Bool)
        → (if b then Taken else if t.expected == 0 then taken_if_room t else if nat_lt t.most (t.expected + t.weight) then Much else taken_if_room t) ≡ Taken
    light true = refl
    light false = rw none (first_fits t (nat_lt t.room (0 + t.weight)) first)

    by : (b : Bool) → (if b then asked t else Taken) ≡ Taken
    by true = rw (not_full t.asks asks_some) (light (t.weight == 0))
    by false = refl

pub other_is_taken : (t : BatchLimits) (body : List ℕ) → 0 < t.requests → 0 < t.bytes → asks body ≡ false → taking t body ≡ Taken
other_is_taken t body some bytes_some none = rw (not_full t.requests some, not_full t.bytes bytes_some, none) refl
