-- What the first bytes of frames bring, as the frames are taken apart.
use Rattle.std.proofs.Common.{◌≡◌, ◌⊎◌, ◌≤◌, ◌<◌, ℕ, ◌+◌, ◌-◌, Bool, true, false, List, [], ◌∷◌, ◌++◌, length, take, take-take, min, Option, refl, sym, ap}
use Rattle.std.proofs.Common.{◌∙◌, subst, inl, inr, arith, eqb, true≢false}
use Rattle.std.specs.Prelude.{nat_lt, if◌then◌else◌, ◌==◌}
use Rattle.std.proofs.lemmas.Bool.{cases_lt, eq-eqb, eqb-true}
use Rattle.std.proofs.lemmas.List.{append-nil, append_assoc, length-append, length-take-le, take_all}
use Rattle.oa_frame.specs.declared.ends.End.{End}
use Rattle.oa_mux.specs.promise.Marks.{StreamPiece, Byte, Last, Tagged, Of, Flush, States, tag_all, with_state_at}
use Rattle.oa_mux.specs.Marks.{pieces}
use Rattle.oa_mux.specs.Readers.{ClientBrings, after_pieces}
use Rattle.oa_mux.specs.promise.Readers.{Brought, ClientState, Reads, asked_in, records_of}
use Rattle.oa_mux.specs.promise.Frames.{Broken, InHead, FramePlace, Within, begun, framed, frame_head_of, pieces_in}
use Rattle.oa_mux.specs.promise.Frames.{place_within}
use Rattle.oa_mux.specs.Frames.{SaysSome}
use Rattle.oa_mux.specs.promise.Shared.{Demultiplexes, IsClients, SharedState, StopsAtUnknown, place_behind}
use Rattle.oa_mux.specs.promise.Shared.{reads_nothing, states_behind}
use Rattle.oa_mux.specs.Shared.{Begins, IsHeads, TellsUnknown, is_unknown, frame_place}
use Rattle.oa_mux.specs.declared.streams.DemuxItem.{DemuxItem}
use Rattle.oa_mux.specs.declared.streams.DemuxItem.TheVariants as arrival
use Rattle.oa_mux.specs.Steps.{EndsWith, OthersStay, Takes, brought, brought_last}
use Rattle.oa_mux.specs.promise.Steps.{client_state}
use Rattle.oa_mux.specs.declared.step.ClientItem.{ClientItem}
use Rattle.oa_mux.specs.declared.step.ClientItem.TheVariants as things
use Rattle.oa_mux.specs.declared.frame.FrameHead.{FrameHead}
use Rattle.oa_mux.specs.declared.frame.FrameHead.TheVariants as head
use Rattle.oa_mux.proofs.Framed.{head_part, head_whole}
use Rattle.oa_mux.proofs.Owners.{at_self, barrier}

-- ---- where the reading stands, and what comes
item_first : (at : FramePlace) (x : ℕ) (xs : List ℕ) → pieces_in at (x ∷ xs) ≡ (framed at x).0 ++ pieces_in (framed at x).1 xs
unfolding pieces_in
item_first at x xs = refl

place_first : (at : FramePlace) (x : ℕ) (xs : List ℕ) → place_behind at (x ∷ xs) ≡ place_behind (framed at x).1 xs
unfolding place_behind
place_first at x xs = refl

no_items : (at : FramePlace) → pieces_in at [] ≡ []
unfolding pieces_in
no_items at = refl

same_place : (at : FramePlace) → place_behind at [] ≡ at
unfolding place_behind
same_place at = refl

broken_items : (bytes : List ℕ) → pieces_in Broken bytes ≡ []
broken_items [] = no_items Broken
broken_items (x ∷ xs) = item_first Broken x xs ∙ broken_items xs

broken_place : (bytes : List ℕ) → place_behind Broken bytes ≡ Broken
broken_place [] = same_place Broken
broken_place (x ∷ xs) = place_first Broken x xs ∙ broken_place xs

-- behind some of a client's bytes
abbrev pub place_left : ℕ → ℕ → FramePlace
place_left client n = if n == 0 then InHead [] else Within client n

within_more : (client n : ℕ) → 1 < n → place_within client n ≡ Within client (n - 1)
within_more client n h =
    let a : nat_lt 1 n ≡ true = search (arith, h) in
    rw a refl

within_last : (client n : ℕ) → 0 < n → place_within client n ≡ place_left client (n - 1)
within_last client n h = by (cases_lt 1 n)
  where
    by : (1 < n) ⊎ (n ≤ 1) → place_within client n ≡ place_left client (n - 1)
    by (inl more) =
        let a : (n - 1 == 0) ≡ false = search (arith, more) in
        within_more client n more ∙ rw a refl
    by (inr one) =
        let a : nat_lt 1 n ≡ false = search (arith, one) in
        let b : (n - 1 == 0) ≡ true = search (arith, one) in
        rw (a, b) refl

within_items : (client n : ℕ) (bytes : List ℕ) → length bytes ≤ n → pieces_in (Within client n) bytes ≡ tag_all client (pieces bytes)
unfolding tag_all pieces
within_items client n [] h = no_items (Within client n)
within_items client n (x ∷ []) h = item_first (Within client n) x [] ∙ ap (λ l. Of client (Byte x) ∷ l) (no_items (place_within client n))
within_items client n (x ∷ (y ∷ ys)) h =
    item_first (Within client n) x (y ∷ ys)
    ∙ ap (λ p. Of client (Byte x) ∷ pieces_in p (y ∷ ys)) (within_more client n (omega (arith, h)))
    ∙ ap (λ l. Of client (Byte x) ∷ l) (within_items client (n - 1) (y ∷ ys) (omega (arith, h)))

within_place : (client n : ℕ) (x : ℕ) (xs : List ℕ) → length (x ∷ xs) ≤ n → place_behind (Within client n) (x ∷ xs) ≡ place_left client (n - length (x ∷ xs))
within_place client n x [] h = place_first (Within client n) x [] ∙ same_place (place_within client n) ∙ within_last client n (omega (arith, h))
within_place client n x (y ∷ ys) h =
    let e : n - 1 - length (y ∷ ys) ≡ n - length (x ∷ (y ∷ ys)) = omega arith in
    place_first (Within client n) x (y ∷ ys)
    ∙ ap (λ p. place_behind p (y ∷ ys)) (within_more client n (omega (arith, h)))
    ∙ within_place client (n - 1) y ys (omega (arith, h))
    ∙ ap (place_left client) e

-- in a head
goes : List (Tagged StreamPiece) × FramePlace → List ℕ → List (Tagged StreamPiece) × FramePlace
goes r rest = (r.0 ++ pieces_in r.1 rest, place_behind r.1 rest)

both_first : (at : FramePlace) (x : ℕ) (xs : List ℕ) → (pieces_in at (x ∷ xs), place_behind at (x ∷ xs)) ≡ goes (framed at x) xs
unfolding goes pieces_in place_behind
both_first at x xs = refl

both : FramePlace → List ℕ → List (Tagged StreamPiece) × FramePlace
both at bytes = (pieces_in at bytes, place_behind at bytes)

goes_none : (r : List (Tagged StreamPiece) × FramePlace) → goes r [] ≡ r
unfolding goes pieces_in place_behind
goes_none r = ap (λ l. (l, r.1)) (append-nil r.0)

head_goes : (front : List ℕ) (x : ℕ) (xs : List ℕ) → length (front ++ x ∷ []) < 8 → both (InHead front) (x ∷ xs) ≡ both (InHead (front ++ x ∷ [])) xs
unfolding both goes
head_goes front x xs h = both_first (InHead front) x xs ∙ ap (λ (r : List (Tagged StreamPiece) × FramePlace). goes r xs) (head_part (front ++ x ∷ []) h)

in_head_part : (front bytes : List ℕ) → length (front ++ bytes) < 8 → both (InHead front) bytes ≡ ([], InHead (front ++ bytes))
unfolding both pieces_in place_behind
in_head_part front [] h = ap (λ l. ([], InHead l)) (sym (append-nil front))
in_head_part front (x ∷ xs) h =
    let e : (front ++ x ∷ []) ++ xs ≡ front ++ x ∷ xs = append_assoc front (x ∷ []) xs in
    let len = length-append front (x ∷ xs) in
    let len' = length-append front (x ∷ []) in
    head_goes front x xs (omega (arith, len, len', h))
    ∙ in_head_part (front ++ x ∷ []) xs (subst (λ (l : List ℕ). length l < 8) (sym e) h)
    ∙ ap (λ l. ([], InHead l)) e

in_head_whole : (front : List ℕ) (x : ℕ) (xs : List ℕ) → length (front ++ x ∷ xs) ≡ 8 → both (InHead front) (x ∷ xs) ≡ begun (frame_head_of (front ++ x ∷ xs))
unfolding both
in_head_whole front x [] h = both_first (InHead front) x [] ∙ ap (λ (r : List (Tagged StreamPiece) × FramePlace). goes r []) (head_whole (front ++ x ∷ []) h)
    ∙ goes_none (begun (frame_head_of (front ++ x ∷ [])))
in_head_whole front x (y ∷ ys) h =
    let e : (front ++ x ∷ []) ++ y ∷ ys ≡ front ++ x ∷ (y ∷ ys) = append_assoc front (x ∷ []) (y ∷ ys) in
    let len = length-append front (x ∷ (y ∷ ys)) in
    let len' = length-append front (x ∷ []) in
    head_goes front x (y ∷ ys) (omega (arith, len, len', h))
    ∙ in_head_whole (front ++ x ∷ []) y ys (ap length e ∙ h)
    ∙ ap (λ l. begun (frame_head_of l)) e

-- ---- the states of the clients
module _ {Z : Type 0} (reads : Reads Z) where
  same_put : (client other : ℕ) (states : States Z) → states other ≡ with_state_at client (states client) states other
  same_put client other states = by (eqb client other) refl
    where
      by : (b : Bool) → eqb client other ≡ b → states other ≡ (if eqb client other then states client else states other)
      by true e = rw e (ap states (sym (eqb-true client other e)))
      by false e = rw e refl

  put_twice : (client other : ℕ) (a b : Z) (states : States Z) → with_state_at client a (with_state_at client b states) other
      ≡ with_state_at client a states other
  put_twice client other a b states = by (eqb client other) refl
    where
      by : (t : Bool) → eqb client other ≡ t → with_state_at client a (with_state_at client b states) other ≡ with_state_at client a states other
      by true e = rw e refl
      by false e = rw e refl

  named_behind : (states : States Z) (client : ℕ) (ps : List StreamPiece) (other : ℕ)
      → states_behind reads states (tag_all client ps) other ≡ with_state_at client (after_pieces reads (states client) ps) states other
  unfolding states_behind tag_all after_pieces
  named_behind states client [] other = same_put client other states
  named_behind states client (p ∷ ps) other =
      let z = (reads (states client) p).1 in
      named_behind (with_state_at client z states) client ps other
      ∙ ap (λ (w : Z). with_state_at client (after_pieces reads w ps) (with_state_at client z states) other) (at_self reads client z states)
      ∙ put_twice client other (after_pieces reads z ps) z states

state_put : (client : ℕ) (old new : List (ℕ × ClientState)) (at : Option ClientState) (other : ℕ) → at ≡ client_state new client → OthersStay client old new
    → with_state_at client at (client_state old) other ≡ client_state new other
state_put client old new at other is stay = by (eqb client other) refl
  where
    by : (b : Bool) → eqb client other ≡ b → with_state_at client at (client_state old) other ≡ client_state new other
    by true e = rw e (is ∙ ap (client_state new) (eqb-true client other e))
    by false e = rw e (sym (stay other (λ same. true≢false (sym (eq-eqb client other same) ∙ e))))

-- ---- what is taken
no_asks : (place : FramePlace) (old new : SharedState) → old.place ≡ place → new.place ≡ place
    → ((client : ℕ) → client_state old.clients client ≡ client_state new.clients client) → Demultiplexes old [] [] new
unfolding asked_in states_behind pieces_in place_behind
no_asks place old new a b s = record { brought = refl; place = a ∙ sym b; states = s }

pub nothing_asked : (old new : SharedState) → new.place ≡ old.place → ((client : ℕ) → client_state new.clients client ≡ client_state old.clients client)
    → Demultiplexes old [] [] new
nothing_asked old new b s = no_asks old.place old new refl b (λ client. sym (s client))

pub broken_asks : (old : SharedState) (bytes : List ℕ) → old.place ≡ Broken → Demultiplexes old bytes [] old
unfolding asked_in states_behind
broken_asks old bytes is =
    let none : pieces_in old.place bytes ≡ [] = ap (λ p. pieces_in p bytes) is ∙ broken_items bytes in record {
      brought = ap (asked_in records_of (client_state old.clients)) none;
      place = ap (λ p. place_behind p bytes) is ∙ broken_place bytes ∙ sym is;
      states = λ client. ap (λ l. states_behind records_of (client_state old.clients) l client) none;
    }

pub within_asks : (old new : SharedState) (client n : ℕ) (part : List ℕ) (all : List Brought) → old.place ≡ Within client n → 0 < length part → length part ≤ n
    → ClientBrings (client_state old.clients client) part all (client_state new.clients client) → OthersStay client old.clients new.clients
    → new.place ≡ place_left client (n - length part)
    → Demultiplexes old part (tag_all client all) new
within_asks old new client n [] all is some short b stay to = absurd (omega (arith, some))
within_asks old new client n (x ∷ xs) all is some short b stay to =
    let items : pieces_in old.place (x ∷ xs) ≡ tag_all client (pieces (x ∷ xs)) = ap (λ p. pieces_in p (x ∷ xs)) is ∙ within_items client n (x ∷ xs) short in
    record {
      brought = ap (asked_in records_of (client_state old.clients)) items ∙ barrier records_of (client_state old.clients) client (pieces (x ∷ xs))
          ∙ ap (tag_all client) b.brought;
      place = ap (λ p. place_behind p (x ∷ xs)) is ∙ within_place client n x xs short ∙ sym to;
      states = λ other.
          ap (λ l. states_behind records_of (client_state old.clients) l other) items
          ∙ named_behind records_of (client_state old.clients) client (pieces (x ∷ xs)) other
          ∙ state_put client old.clients new.clients (after_pieces records_of (client_state old.clients client) (pieces (x ∷ xs))) other b.after stay;
    }

pub part_asks : (old new : SharedState) (front bytes : List ℕ) → old.place ≡ InHead front → length (front ++ bytes) < 8 → new.place ≡ InHead (front ++ bytes)
    → ((client : ℕ) → client_state new.clients client ≡ client_state old.clients client) → Demultiplexes old bytes [] new
unfolding both asked_in states_behind
part_asks old new front bytes is short to same =
    let r = in_head_part front bytes short in
    let none : pieces_in old.place bytes ≡ [] = ap (λ p. pieces_in p bytes) is ∙ ap (λ (b : List (Tagged StreamPiece) × FramePlace). b.0) r in record {
      brought = ap (asked_in records_of (client_state old.clients)) none;
      place = ap (λ p. place_behind p bytes) is ∙ ap (λ (b : List (Tagged StreamPiece) × FramePlace). b.1) r ∙ sym to;
      states = λ client. ap (λ l. states_behind records_of (client_state old.clients) l client) none ∙ sym (same client);
    }

pub whole_asks : (old mid new : SharedState) (front bytes : List ℕ) (all : List (Tagged Brought)) → old.place ≡ InHead front → 0 < length bytes
    → length (front ++ bytes) ≡ 8 → mid.clients ≡ old.clients
    → Begins (frame_head_of (front ++ bytes)) mid all new → Demultiplexes old bytes all new
unfolding both
whole_asks old mid new front [] all is some eight same b = absurd (omega (arith, some))
whole_asks old mid new front (x ∷ xs) all is some eight same b =
    let r = in_head_whole front x xs eight in
    let items : pieces_in old.place (x ∷ xs) ≡ (begun (frame_head_of (front ++ x ∷ xs))).0 = ap (λ p. pieces_in p (x ∷ xs)) is ∙ taken_items r in record {
      brought = ap (asked_in records_of (client_state old.clients)) items
          ∙ ap (λ c. asked_in records_of (client_state c) (begun (frame_head_of (front ++ x ∷ xs))).0) (sym same) ∙ b.brought;
      place = ap (λ p. place_behind p (x ∷ xs)) is ∙ taken_place r ∙ sym b.place;
      states = λ client.
          ap (λ l. states_behind records_of (client_state old.clients) l client) items
          ∙ ap (λ c. states_behind records_of (client_state c) (begun (frame_head_of (front ++ x ∷ xs))).0 client) (sym same)
          ∙ b.states client;
    }
  where
    taken_items : both (InHead front) (x ∷ xs) ≡ begun (frame_head_of (front ++ x ∷ xs))
        → pieces_in (InHead front) (x ∷ xs) ≡ (begun (frame_head_of (front ++ x ∷ xs))).0
    taken_items r = ap (λ (b : List (Tagged StreamPiece) × FramePlace). b.0) r

    taken_place : both (InHead front) (x ∷ xs) ≡ begun (frame_head_of (front ++ x ∷ xs))
        → place_behind (InHead front) (x ∷ xs) ≡ (begun (frame_head_of (front ++ x ∷ xs))).1
    taken_place r = ap (λ (b : List (Tagged StreamPiece) × FramePlace). b.1) r

-- ---- behind a head
pub begins_plain : (h : FrameHead) (old new : SharedState) (all : List (Tagged Brought)) → (begun h).0 ≡ [] → all ≡ [] → new.place ≡ (begun h).1
    → new.clients ≡ old.clients → Begins h old all new
unfolding asked_in states_behind
begins_plain h old new all none is to same = record {
  brought = ap (asked_in records_of (client_state old.clients)) none ∙ sym is;
  place = to;
  states = λ client. ap (λ l. states_behind records_of (client_state old.clients) l client) none ∙ ap (λ c. client_state c client) (sym same);
}

pub begins_now : (old new : SharedState) → new.place ≡ InHead [] → new.clients ≡ old.clients → Begins head.Flush old (Flush ∷ []) new
unfolding asked_in states_behind
begins_now old new to same = record { brought = refl; place = to; states = λ client. ap (λ c. client_state c client) (sym same) }

pub begins_last : (client : ℕ) (result : Option End) (old new : SharedState) (all : List (Tagged Brought)) → new.place ≡ InHead []
    → all ≡ tag_all client (brought_last result)
    → EndsWith result (client_state old.clients client) (client_state new.clients client) → OthersStay client old.clients new.clients
    → Begins (head.Last client) old all new
unfolding asked_in states_behind
begins_last client result old new all to is ends stay = record {
  brought = append-nil (tag_all client (records_of (client_state old.clients client) Last).0)
      ∙ ap (λ (r : List Brought × Option ClientState). tag_all client r.0) ends ∙ sym is;
  place = to;
  states = λ other. state_put client old.clients new.clients (records_of (client_state old.clients client) Last).1 other
      (ap (λ (r : List Brought × Option ClientState). r.1) ends) stay;
}

-- ---- what is kept of a place
pub kept_head : (broken : Bool) (left client have : ℕ) (bytes : List ℕ) → IsHeads (frame_place broken left client have bytes) → (broken ≡ false) × (left ≡ 0)
kept_head true left client have bytes is = absurd is
kept_head false left client have bytes is = by (left == 0) refl
  where
    by : (b : Bool) → (left == 0) ≡ b → (false ≡ false) × (left ≡ 0)
    by true e = (refl, eqb-true left 0 e)
    by false e = absurd (subst IsHeads (ap (λ b. if b then InHead (take have bytes) else Within client left) e) is)

pub kept_client : (broken : Bool) (left client have : ℕ) (bytes : List ℕ) → IsClients (frame_place broken left client have bytes) → (broken ≡ false)
    × (0 < left)
kept_client true left client have bytes is = absurd is
kept_client false left client have bytes is = by (left == 0) refl
  where
    by : (b : Bool) → (left == 0) ≡ b → (false ≡ false) × (0 < left)
    by true e = absurd (subst IsClients (ap (λ b. if b then InHead (take have bytes) else Within client left) e) is)
    by false e = (refl, search (arith, e))

pub at_client : (broken : Bool) (left client have : ℕ) (bytes : List ℕ) → broken ≡ false → 0 < left
    → frame_place broken left client have bytes ≡ Within client left
at_client broken left client have bytes e some =
    let a : (left == 0) ≡ false = search (arith, some) in
    rw (e, a) refl

pub at_head : (broken : Bool) (left client have : ℕ) (bytes : List ℕ) → broken ≡ false → left ≡ 0 → frame_place broken left client have bytes ≡ InHead
    (take have bytes)
at_head broken left client have bytes e none =
    let a = eq-eqb left 0 none in
    rw (e, a) refl

pub at_broken : (broken : Bool) (left client have : ℕ) (bytes : List ℕ) → broken ≡ true → frame_place broken left client have bytes ≡ Broken
at_broken broken left client have bytes e = rw e refl

-- behind some of the bytes of a client's frame
pub at_left : (broken : Bool) (left client have : ℕ) (bytes : List ℕ) → broken ≡ false → have ≡ 0
    → frame_place broken left client have bytes ≡ place_left client left
at_left broken left client have bytes e none = rw (e, none) refl

pub kept_open : (broken : Bool) (left client have : ℕ) (bytes : List ℕ) → broken ≡ false → reads_nothing (frame_place broken left client have bytes) ≡ false
kept_open broken left client have bytes e = ap (λ (b : Bool). reads_nothing (frame_place b left client have bytes)) e ∙ clear (left == 0)
  where
    clear : (none : Bool) → reads_nothing (if none then InHead (take have bytes) else Within client left) ≡ false
    clear true = refl
    clear false = refl

-- ---- heads that say nothing
pub is_broken : (at : FramePlace) → reads_nothing at ≡ true → at ≡ Broken
is_broken (InHead front) h = absurd (true≢false (sym h))
is_broken (Within client n) h = absurd (true≢false (sym h))
is_broken Broken h = refl

heads_open : (at : FramePlace) → IsHeads at → reads_nothing at ≡ false
heads_open (InHead front) h = refl
heads_open (Within client n) h = absurd h
heads_open Broken h = absurd h

clients_open : (at : FramePlace) → IsClients at → reads_nothing at ≡ false
clients_open (InHead front) h = absurd h
clients_open (Within client n) h = refl
clients_open Broken h = absurd h

open_before : (at : FramePlace) (x : ℕ) (xs : List ℕ) → reads_nothing (place_behind (framed at x).1 xs) ≡ false → reads_nothing at ≡ false
open_before (InHead front) x xs h = refl
open_before (Within client n) x xs h = refl
open_before Broken x xs h = absurd (true≢false (sym (ap reads_nothing (broken_place xs)) ∙ h))

pub stops_open : (at : FramePlace) (bytes : List ℕ) → reads_nothing (place_behind at bytes) ≡ false → StopsAtUnknown at bytes
unfolding StopsAtUnknown place_behind
stops_open at [] h = tt
stops_open at (x ∷ xs) h = (open_before at x xs h, stops_open (framed at x).1 xs h)

head_stops : (front bytes : List ℕ) → length (front ++ bytes) ≤ 8 → StopsAtUnknown (InHead front) bytes
unfolding StopsAtUnknown
head_stops front [] h = tt
head_stops front (x ∷ []) h = (refl, tt)
head_stops front (x ∷ (y ∷ ys)) h =
    let e : (front ++ x ∷ []) ++ y ∷ ys ≡ front ++ x ∷ (y ∷ ys) = append_assoc front (x ∷ []) (y ∷ ys) in
    let len = length-append front (x ∷ (y ∷ ys)) in
    let len' = length-append front (x ∷ []) in (
      refl,
      subst (λ (r : List (Tagged StreamPiece) × FramePlace). StopsAtUnknown r.1 (y ∷ ys)) (sym (head_part (front ++ x ∷ []) (omega (arith, len, len', h))))
          (head_stops (front ++ x ∷ []) (y ∷ ys) (subst (λ (l : List ℕ). length l ≤ 8) (sym e) h)),
    )

tells_open : (it : DemuxItem) (at : FramePlace) (bytes : List ℕ) → reads_nothing at ≡ false → is_unknown it ≡ reads_nothing (place_behind at bytes)
    → StopsAtUnknown at bytes → TellsUnknown it at bytes
tells_open it at bytes clear is stops = record {
  told = is ∙ sym (ap (λ (b : Bool). if b then false else reads_nothing (place_behind at bytes)) clear);
  stops = λ o. stops;
}

tells_known : (it : DemuxItem) (old new : SharedState) (bytes : List ℕ) (all : List (Tagged Brought)) → reads_nothing old.place ≡ false
    → reads_nothing new.place ≡ false → is_unknown it ≡ false → Demultiplexes old bytes all new
    → TellsUnknown it old.place bytes
tells_known it old new bytes all clear clear' known t =
    let after_pieces = ap reads_nothing t.place ∙ clear' in
    tells_open it old.place bytes clear (known ∙ sym after_pieces) (stops_open old.place bytes after_pieces)

tells_nothing : (at : FramePlace) (bytes : List ℕ) → at ≡ Broken → TellsUnknown arrival.Nothing at bytes
tells_nothing at bytes is = record {
  told = sym (ap (λ (p : FramePlace). if reads_nothing p then false else reads_nothing (place_behind at bytes)) is);
  stops = λ clear. absurd (true≢false (sym (ap reads_nothing is) ∙ clear));
}

-- ---- as it is kept
take_less : (n m : ℕ) (xs : List ℕ) → n ≤ m → take n (take m xs) ≡ take n xs
take_less n m xs h = take-take n m xs h

taken_within : (taken : ℕ) (what : ClientItem) (all : ℕ) → Takes taken what all → taken ≤ all
taken_within taken things.Nothing all t = omega (arith, t)
taken_within taken (things.Body r) all t = t.1
taken_within taken (things.Ends why) all t = t.1

taken_some : (taken : ℕ) (what : ClientItem) (all : ℕ) → Takes taken what all → 0 < all → 0 < taken
taken_some taken things.Nothing all t h = omega (arith, t, h)
taken_some taken (things.Body r) all t h = t.0
taken_some taken (things.Ends why) all t h = t.0

module _ (old : SharedState) (clients : List (ℕ × ClientState)) (broken : Bool) (left client have : ℕ) (bytes : List ℕ)
    (is : record { place = frame_place broken left client have bytes; clients = clients } ≡ old) where
  place_is : frame_place broken left client have bytes ≡ old.place
  place_is = ap (λ (s : SharedState). s.place) is

  clients_are : clients ≡ old.clients
  clients_are = ap (λ (s : SharedState). s.clients) is

  pub broken_taken : (more : List ℕ) → broken ≡ true → Demultiplexes old (take (length more) more) [] old
  broken_taken more b = broken_asks old (take (length more) more) (sym place_is ∙ at_broken broken left client have bytes b)

  pub broken_tells : (more : List ℕ) → broken ≡ true → TellsUnknown arrival.Nothing old.place (take (length more) more)
  broken_tells more b = tells_nothing old.place (take (length more) more) (sym place_is ∙ at_broken broken left client have bytes b)

  head_is : IsHeads old.place → old.place ≡ InHead (take have bytes)
  head_is h = let k = kept_head broken left client have bytes (subst IsHeads (sym place_is) h) in sym place_is ∙ at_head broken left client have bytes k.0 k.1

  pub part_taken : (filled more : List ℕ) (count : ℕ) → IsHeads old.place → length bytes ≡ 8 → count ≤ length more → have + count < 8
      → take (have + length (take count more)) filled ≡ take have bytes ++ take count more
      → Demultiplexes old (take count more) [] (record { place = frame_place broken left client (have + count) filled; clients = clients })
  part_taken filled more count h eight few short fill =
      let k = kept_head broken left client have bytes (subst IsHeads (sym place_is) h) in
      let len = length-take-le count more few in
      let len' = length-take-le have bytes (omega (arith, eight, short)) in
      let all = length-append (take have bytes) (take count more) in
      part_asks old (record { place = frame_place broken left client (have + count) filled; clients = clients }) (take have bytes) (take count more) (head_is h)
      (omega (arith, all, len, len', short))
      (at_head broken left client (have + count) filled k.0 k.1 ∙ ap InHead (ap (λ n. take (have + n) filled) (sym len) ∙ fill))
      (λ c. ap (λ cs. client_state cs c) clients_are)

  pub part_tells : (filled more : List ℕ) (count : ℕ) → IsHeads old.place
      → Demultiplexes old (take count more) [] (record { place = frame_place broken left client (have + count) filled; clients = clients })
      → TellsUnknown arrival.Nothing old.place (take count more)
  part_tells filled more count h t =
      let k = kept_head broken left client have bytes (subst IsHeads (sym place_is) h) in
      tells_known arrival.Nothing old (record { place = frame_place broken left client (have + count) filled; clients = clients }) (take count more) []
      (heads_open old.place h) (kept_open broken left client (have + count) filled k.0) refl t

  pub whole_taken : (filled more : List ℕ) (count : ℕ) (h : FrameHead) (all : List (Tagged Brought)) (mid new : SharedState) → IsHeads old.place
      → length bytes ≡ 8 → length filled ≡ 8 → have < 8 → count ≤ length more
      → have + count ≡ 8 → take (have + length (take count more)) filled ≡ take have bytes ++ take count more → h ≡ frame_head_of filled → mid.clients ≡ clients
      → Begins h mid all new → Demultiplexes old (take count more) all new
  whole_taken filled more count h all mid new heads eight eight' under few sum fill is_head same b =
      let len = length-take-le count more few in
      let len' = length-take-le have bytes (omega (arith, eight, under)) in
      let total = length-append (take have bytes) (take count more) in
      let full : filled ≡ take have bytes ++ take count more = sym (take_all (have + length (take count more)) filled (omega (arith, len, sum, eight')))
      ∙ fill in
      whole_asks old mid new (take have bytes) (take count more) all (head_is heads) (omega (arith, len, sum, under)) (omega (arith, total, len, len', sum))
      (same ∙ clients_are)
      (subst (λ (g : FrameHead). Begins g mid all new) (is_head ∙ ap frame_head_of full) b)

  pub whole_tells : (it : DemuxItem) (more : List ℕ) (count : ℕ) (h : FrameHead) (all all' : List (Tagged Brought)) (mid new : SharedState) → IsHeads old.place
      → length bytes ≡ 8 → have < 8 → count ≤ length more → have + count ≡ 8
      → is_unknown it ≡ reads_nothing (begun h).1 → Begins h mid all' new → Demultiplexes old (take count more) all new
      → TellsUnknown it old.place (take count more)
  whole_tells it more count h all all' mid new heads eight under few sum told b t =
      let len = length-take-le count more few in
      let len' = length-take-le have bytes (omega (arith, eight, under)) in
      let total = length-append (take have bytes) (take count more) in
      tells_open it old.place (take count more) (heads_open old.place heads) (told ∙ ap reads_nothing (sym b.place) ∙ ap reads_nothing (sym t.place))
      (subst (λ (p : FramePlace). StopsAtUnknown p (take count more)) (sym (head_is heads))
      (head_stops (take have bytes) (take count more) (omega (arith, total, len, len', sum))))

  pub within_taken : (clients' : List (ℕ × ClientState)) (more : List ℕ) (most taken : ℕ) (what : ClientItem) (all : List (Tagged Brought))
      → IsClients old.place → 0 < length more → most ≡ min (length more) left → Takes taken what (length (take most more))
      → ClientBrings (client_state clients client) (take taken (take most more)) (brought what) (client_state clients' client)
      → OthersStay client clients clients' → all ≡ tag_all client (brought what)
      → Demultiplexes old (take taken more) all (record { place = frame_place broken (left - taken) client 0 bytes; clients = clients' })
  within_taken clients' more most taken what all cs some m t b stay named_are =
      let k = kept_client broken left client have bytes (subst IsClients (sym place_is) cs) in
      let left_some = k.1 in
      let inside : most ≤ length more = omega (arith, m) in
      let fits : most ≤ left = omega (arith, m) in
      let first : 0 < most = omega (arith, m, some, left_some) in
      let len = length-take-le most more inside in
      let up = taken_within taken what (length (take most more)) t in
      let low = taken_some taken what (length (take most more)) t (omega (arith, len, first)) in
      let part : take taken (take most more) ≡ take taken more = take_less taken most more (omega (arith, up, len)) in
      let long = length-take-le taken more (omega (arith, up, len, inside)) in
      let b' = subst (λ cs. ClientBrings (client_state cs client) (take taken more) (brought what) (client_state clients' client)) clients_are
      (subst (λ l. ClientBrings (client_state clients client) l (brought what) (client_state clients' client)) part b) in
      let stay' = subst (λ cs. OthersStay client cs clients') clients_are stay in
      subst (λ l. Demultiplexes old (take taken more) l (record { place = frame_place broken (left - taken) client 0 bytes; clients = clients' }))
      (sym named_are)
      (within_asks old (record { place = frame_place broken (left - taken) client 0 bytes; clients = clients' }) client left (take taken more) (brought what)
      (sym place_is ∙ at_client broken left client have bytes k.0 k.1) (omega (arith, long, low)) (omega (arith, long, up, len, fits)) b' stay'
      (at_left broken (left - taken) client 0 bytes k.0 refl ∙ ap (λ n. place_left client (left - n)) (sym long)))

  pub within_tells : (it : DemuxItem) (clients' : List (ℕ × ClientState)) (part : List ℕ) (taken : ℕ) (all : List (Tagged Brought)) → IsClients old.place
      → is_unknown it ≡ false
      → Demultiplexes old part all (record { place = frame_place broken (left - taken) client 0 bytes; clients = clients' }) → TellsUnknown it old.place part
  within_tells it clients' part taken all cs known t =
      let k = kept_client broken left client have bytes (subst IsClients (sym place_is) cs) in
      tells_known it old (record { place = frame_place broken (left - taken) client 0 bytes; clients = clients' }) part all (clients_open old.place cs)
      (kept_open broken (left - taken) client 0 bytes k.0) known t

  pub nothing_taken : (clients' : List (ℕ × ClientState)) → client_state clients' client ≡ client_state clients client → OthersStay client clients clients'
      → Demultiplexes old [] [] (record { place = frame_place broken left client have bytes; clients = clients' })
  nothing_taken clients' same stay = nothing_asked old (record { place = frame_place broken left client have bytes; clients = clients' }) place_is
      (λ other. by other (eqb client other) refl ∙ ap (λ cs. client_state cs other) clients_are)
    where
      by : (other : ℕ) (b : Bool) → eqb client other ≡ b → client_state clients' other ≡ client_state clients other
      by other true e = let is_same = eqb-true client other e in ap (client_state clients') (sym is_same) ∙ same ∙ ap (client_state clients) is_same
      by other false e = stay other (λ f. true≢false (sym (eq-eqb client other f) ∙ e))

  pub begun_bytes : (h : FrameHead) (number count : ℕ) → old.place ≡ InHead [] → h ≡ head.Bytes number count → SaysSome h
      → Begins h old [] (record { place = frame_place broken count number have bytes; clients = clients })
  begun_bytes h number count at e some =
      let k = kept_head broken left client have bytes (subst IsHeads (sym at ∙ sym place_is) tt) in
      let n : 0 < count = subst SaysSome e some in
      subst (λ (g : FrameHead). Begins g old [] (record { place = frame_place broken count number have bytes; clients = clients })) (sym e)
      (begins_plain (head.Bytes number count) old (record { place = frame_place broken count number have bytes; clients = clients }) [] refl refl
      (at_client broken count number have bytes k.0 n) clients_are)

  pub begun_last : (h : FrameHead) (number : ℕ) (result : Option End) (all : List (Tagged Brought)) (clients' : List (ℕ × ClientState)) → old.place ≡ InHead []
      → h ≡ head.Last number → all ≡ tag_all number (brought_last result)
      → EndsWith result (client_state clients number) (client_state clients' number) → OthersStay number clients clients'
      → Begins h old all (record { place = frame_place broken left client have bytes; clients = clients' })
  begun_last h number result all clients' at e is_all ends stay =
      subst (λ (g : FrameHead). Begins g old all (record { place = frame_place broken left client have bytes; clients = clients' })) (sym e)
      (begins_last number result old (record { place = frame_place broken left client have bytes; clients = clients' }) all (place_is ∙ at) is_all
      (subst (λ cs. EndsWith result (client_state cs number) (client_state clients' number)) clients_are ends)
      (subst (λ cs. OthersStay number cs clients') clients_are stay))

  pub begun_now : (h : FrameHead) → old.place ≡ InHead [] → h ≡ head.Flush → Begins h old (Flush ∷ []) old
  begun_now h at e = subst (λ (g : FrameHead). Begins g old (Flush ∷ []) old) (sym e) (begins_now old old at refl)

  pub begun_unknown : (h : FrameHead) → h ≡ head.Unknown → Begins h old [] (record { place = frame_place true left client have bytes; clients = clients })
  begun_unknown h e =
      subst (λ (g : FrameHead). Begins g old [] (record { place = frame_place true left client have bytes; clients = clients })) (sym e)
      (begins_plain head.Unknown old (record { place = frame_place true left client have bytes; clients = clients }) [] refl refl refl clients_are)

-- ---- one part of a stream after another
items_append : (at : FramePlace) (xs ys : List ℕ) → pieces_in at (xs ++ ys) ≡ pieces_in at xs ++ pieces_in (place_behind at xs) ys
unfolding pieces_in place_behind
items_append at [] ys = refl
items_append at (x ∷ xs) ys =
    ap (λ l. (framed at x).0 ++ l) (items_append (framed at x).1 xs ys)
    ∙ sym (append_assoc (framed at x).0 (pieces_in (framed at x).1 xs) (pieces_in (place_behind (framed at x).1 xs) ys))

place_append : (at : FramePlace) (xs ys : List ℕ) → place_behind at (xs ++ ys) ≡ place_behind (place_behind at xs) ys
unfolding place_behind
place_append at [] ys = refl
place_append at (x ∷ xs) ys = place_append (framed at x).1 xs ys

pub stops_then : (at : FramePlace) (xs ys : List ℕ) → StopsAtUnknown at xs → StopsAtUnknown (place_behind at xs) ys → StopsAtUnknown at (xs ++ ys)
unfolding StopsAtUnknown place_behind
stops_then at [] ys a b = b
stops_then at (x ∷ xs) ys a b = (a.0, stops_then (framed at x).1 xs ys a.1 b)

pub stops_none : (at : FramePlace) → StopsAtUnknown at []
unfolding StopsAtUnknown
stops_none at = tt

module _ {Z : Type 0} (reads : Reads Z) where
  asked_append : (states : States Z) (ps qs : List (Tagged StreamPiece)) → asked_in reads states (ps ++ qs) ≡ asked_in reads states ps ++ asked_in reads
      (states_behind reads states ps) qs
  unfolding asked_in states_behind
  asked_append states [] qs = refl
  asked_append states (Of client p ∷ ps) qs =
      ap (λ l. tag_all client (reads (states client) p).0 ++ l) (asked_append (with_state_at client (reads (states client) p).1 states) ps qs)
      ∙ sym (append_assoc (tag_all client (reads (states client) p).0) (asked_in reads (with_state_at client (reads (states client) p).1 states) ps)
      (asked_in reads (states_behind reads (with_state_at client (reads (states client) p).1 states) ps) qs))
  asked_append states (Flush ∷ ps) qs = ap (λ l. Flush ∷ l) (asked_append states ps qs)

  behind_append : (states : States Z) (ps qs : List (Tagged StreamPiece)) (c : ℕ) → states_behind reads states (ps ++ qs) c ≡ states_behind reads
      (states_behind reads states ps) qs c
  unfolding states_behind
  behind_append states [] qs c = refl
  behind_append states (Of client p ∷ ps) qs c = behind_append (with_state_at client (reads (states client) p).1 states) ps qs c
  behind_append states (Flush ∷ ps) qs c = behind_append states ps qs c

  put_alike : (client : ℕ) (a b : Z) (one two : States Z) → a ≡ b → ((c : ℕ) → one c ≡ two c) → (c : ℕ)
      → with_state_at client a one c ≡ with_state_at client b two c
  put_alike client a b one two e same c = by (eqb client c) refl
    where
      by : (t : Bool) → eqb client c ≡ t → with_state_at client a one c ≡ with_state_at client b two c
      by true f = rw f e
      by false f = rw f (same c)

  -- equal states bring the same
  asked_alike : (one two : States Z) (ps : List (Tagged StreamPiece)) → ((c : ℕ) → one c ≡ two c) → asked_in reads one ps ≡ asked_in reads two ps
  unfolding asked_in
  asked_alike one two [] same = refl
  asked_alike one two (Of client p ∷ ps) same =
      let e = same client in
      ap (λ (z : Z). tag_all client (reads z p).0 ++ asked_in reads (with_state_at client (reads (one client) p).1 one) ps) e
      ∙ ap (λ l. tag_all client (reads (two client) p).0 ++ l)
      (asked_alike (with_state_at client (reads (one client) p).1 one) (with_state_at client (reads (two client) p).1 two) ps
      (put_alike client _ _ one two (ap (λ (z : Z). (reads z p).1) e) same))
  asked_alike one two (Flush ∷ ps) same = ap (λ l. Flush ∷ l) (asked_alike one two ps same)

  behind_alike : (one two : States Z) (ps : List (Tagged StreamPiece)) → ((c : ℕ) → one c ≡ two c) → (c : ℕ)
      → states_behind reads one ps c ≡ states_behind reads two ps c
  unfolding states_behind
  behind_alike one two [] same c = same c
  behind_alike one two (Of client p ∷ ps) same c =
      behind_alike (with_state_at client (reads (one client) p).1 one) (with_state_at client (reads (two client) p).1 two) ps
      (put_alike client _ _ one two (ap (λ (z : Z). (reads z p).1) (same client)) same) c
  behind_alike one two (Flush ∷ ps) same c = behind_alike one two ps same c

pub asks_then : (old mid new : SharedState) (xs ys : List ℕ) (before after : List (Tagged Brought)) → Demultiplexes old xs before mid
    → Demultiplexes mid ys after new → Demultiplexes old (xs ++ ys) (before ++ after) new
asks_then old mid new xs ys before after a b =
    let start = client_state old.clients in
    let items : pieces_in old.place (xs ++ ys) ≡ pieces_in old.place xs ++ pieces_in mid.place ys = items_append old.place xs ys
    ∙ ap (λ p. pieces_in old.place xs ++ pieces_in p ys) a.place in record {
      brought = ap (asked_in records_of start) items
          ∙ asked_append records_of start (pieces_in old.place xs) (pieces_in mid.place ys)
          ∙ ap (λ l. l ++ asked_in records_of (states_behind records_of start (pieces_in old.place xs)) (pieces_in mid.place ys)) a.brought
          ∙ ap (λ l. before ++ l) (asked_alike records_of (states_behind records_of start (pieces_in old.place xs)) (client_state mid.clients)
          (pieces_in mid.place ys) a.states ∙ b.brought);
      place = place_append old.place xs ys ∙ ap (λ p. place_behind p ys) a.place ∙ b.place;
      states = λ c.
          ap (λ l. states_behind records_of start l c) items
          ∙ behind_append records_of start (pieces_in old.place xs) (pieces_in mid.place ys) c
          ∙ behind_alike records_of (states_behind records_of start (pieces_in old.place xs)) (client_state mid.clients) (pieces_in mid.place ys) a.states c
          ∙ b.states c;
    }
