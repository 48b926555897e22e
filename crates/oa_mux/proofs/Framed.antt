-- What the bytes of frames are.
use Rattle.std.proofs.Common.{◌≡◌, ◌≤◌, ◌<◌, ◌^◌, ℕ, ◌+◌, ◌-◌, true, false, List, [], ◌∷◌, ◌++◌, length, drop, refl, sym, ap, ◌∙◌, arith}
use Rattle.std.specs.Prelude.{nat_lt, ◌==◌}
use Rattle.std.specs.Int.{w32, from_le_bytes, to_le_bytes}
use Rattle.std.proofs.lemmas.List.{append_assoc, length-append, take_at, drop_at}
use Rattle.std.proofs.lemmas.Nat.{from_le_bytes-to_le_bytes_4}
use Rattle.oa_mux.specs.promise.Marks.{StreamPiece, Byte, Last, Tagged, Of, Flush, tag_all}
use Rattle.oa_mux.specs.Marks.{pieces}
use Rattle.oa_mux.specs.promise.Frames.{InHead, FramePlace, Within, all_clients, begun, frame_of, framed, frame_head}
use Rattle.oa_mux.specs.promise.Frames.{frame_head_of, headed, heading, pieces_in, max_frame_bytes, place_within}
use Rattle.oa_mux.specs.declared.frame.FrameHead.TheVariants as head

-- a byte, and those behind it
one_byte : (at : FramePlace) (x : ℕ) (xs : List ℕ) → pieces_in at (x ∷ xs) ≡ (framed at x).0 ++ pieces_in (framed at x).1 xs
unfolding pieces_in
one_byte at x xs = refl

-- ---- a head
pub head_part : (bytes : List ℕ) → length bytes < 8 → heading bytes ≡ ([], InHead bytes)
head_part bytes h =
    let a : nat_lt (length bytes) 8 ≡ true = search (arith, h) in
    rw a refl

pub head_whole : (bytes : List ℕ) → length bytes ≡ 8 → heading bytes ≡ begun (frame_head_of bytes)
head_whole bytes h =
    let a : nat_lt (length bytes) 8 ≡ false = search (arith, h) in
    rw a refl

-- what a reading brings, and what follows from where it stands then
goes_on : List (Tagged StreamPiece) × FramePlace → List ℕ → List (Tagged StreamPiece)
goes_on r rest = r.0 ++ pieces_in r.1 rest

head_first : (front : List ℕ) (x : ℕ) (back rest : List ℕ) → length (front ++ x ∷ back) ≡ 8
    → pieces_in (InHead front) (x ∷ back ++ rest) ≡ (begun (frame_head_of (front ++ x ∷ back))).0 ++ pieces_in
    (begun (frame_head_of (front ++ x ∷ back))).1 rest
unfolding goes_on
head_first front x [] rest h = one_byte (InHead front) x rest ∙ ap (λ (r : List (Tagged StreamPiece) × FramePlace). goes_on r rest)
    (head_whole (front ++ x ∷ []) h)
head_first front x (y ∷ ys) rest h =
    let e : (front ++ x ∷ []) ++ y ∷ ys ≡ front ++ x ∷ (y ∷ ys) = append_assoc front (x ∷ []) (y ∷ ys) in
    let len = length-append front (x ∷ (y ∷ ys)) in
    let len' = length-append front (x ∷ []) in
    one_byte (InHead front) x (y ∷ ys ++ rest)
    ∙ ap (λ (r : List (Tagged StreamPiece) × FramePlace). goes_on r (y ∷ ys ++ rest)) (head_part (front ++ x ∷ []) (omega (arith, len, len', h)))
    ∙ head_first (front ++ x ∷ []) y ys rest (ap length e ∙ h)
    ∙ ap (λ l. goes_on (begun (frame_head_of l)) rest) e

at_head : (bytes rest : List ℕ) → length bytes ≡ 8 → pieces_in (InHead []) (bytes ++ rest) ≡ goes_on (begun (frame_head_of bytes)) rest
unfolding goes_on
at_head [] rest h = absurd (omega (arith, h))
at_head (x ∷ xs) rest h = head_first [] x xs rest h

four : (n : ℕ) → length (to_le_bytes w32 n) ≡ 4
four n = refl

said_back : (client n : ℕ) → client < 2 ^ 32 → n < 2 ^ 32 → frame_head_of (frame_head client n) ≡ headed client n
said_back client n a b =
    ap (λ l. headed (from_le_bytes w32 l) (from_le_bytes w32 (drop 4 (frame_head client n))))
    (take_at (to_le_bytes w32 client) (to_le_bytes w32 n) 4 (four client))
    ∙ ap (λ l. headed (from_le_bytes w32 (to_le_bytes w32 client)) (from_le_bytes w32 l)) (drop_at (to_le_bytes w32 client) (to_le_bytes w32 n) 4 (four client))
    ∙ ap (λ k. headed k (from_le_bytes w32 (to_le_bytes w32 n))) (from_le_bytes-to_le_bytes_4 client a)
    ∙ ap (λ k. headed client k) (from_le_bytes-to_le_bytes_4 n b)

eight : (client n : ℕ) → length (frame_head client n) ≡ 8
eight client n = length-append (to_le_bytes w32 client) (to_le_bytes w32 n)

head_read : (client n : ℕ) (rest : List ℕ) → client < 2 ^ 32 → n < 2 ^ 32 → pieces_in (InHead []) (frame_head client n ++ rest) ≡ goes_on
    (begun (headed client n)) rest
head_read client n rest a b = at_head (frame_head client n) rest (eight client n) ∙ ap (λ h. goes_on (begun h) rest) (said_back client n a b)

-- ---- a client's bytes
bytes_read : (client : ℕ) (bytes rest : List ℕ) → 0 < length bytes → pieces_in (Within client (length bytes)) (bytes ++ rest) ≡ tag_all client (pieces bytes)
    ++ pieces_in (InHead []) rest
unfolding tag_all pieces
bytes_read client [] rest some = absurd (omega (arith, some))
bytes_read client (x ∷ []) rest some = one_byte (Within client 1) x rest
bytes_read client (x ∷ (y ∷ ys)) rest some =
    let n : length (x ∷ (y ∷ ys)) ≡ 1 + length (y ∷ ys) = omega arith in
    let more : nat_lt 1 (length (x ∷ (y ∷ ys))) ≡ true = search (arith, n) in
    let less : length (x ∷ (y ∷ ys)) - 1 ≡ length (y ∷ ys) = omega arith in
    let next : place_within client (length (x ∷ (y ∷ ys))) ≡ Within client (length (y ∷ ys)) = rw more (ap (Within client) less) in
    one_byte (Within client (length (x ∷ (y ∷ ys)))) x (y ∷ ys ++ rest)
    ∙ ap (λ p. Of client (Byte x) ∷ pieces_in p (y ∷ ys ++ rest)) next
    ∙ ap (λ l. Of client (Byte x) ∷ l) (bytes_read client (y ∷ ys) rest (omega arith))

not_all : (client : ℕ) → client < all_clients → (client == all_clients) ≡ false
not_all client h = search (arith, h)

pub frame_read : (client : ℕ) (bytes rest : List ℕ) → client < all_clients → 0 < length bytes → length bytes ≤ max_frame_bytes
    → pieces_in (InHead []) (frame_of client bytes ++ rest) ≡ tag_all client (pieces bytes) ++ pieces_in (InHead []) rest
unfolding goes_on
frame_read client bytes rest other some short =
    let a = not_all client other in
    let b : (length bytes == 0) ≡ false = search (arith, some) in
    let c : nat_lt max_frame_bytes (length bytes) ≡ false = search (arith, short) in
    let h : headed client (length bytes) ≡ head.Bytes client (length bytes) = rw (a, b, c) refl in
    ap (pieces_in (InHead [])) (append_assoc (frame_head client (length bytes)) bytes rest)
    ∙ head_read client (length bytes) (bytes ++ rest) (omega (arith, other)) (omega (arith, short))
    ∙ ap (λ h. goes_on (begun h) (bytes ++ rest)) h
    ∙ bytes_read client bytes rest some

pub last_read : (client : ℕ) (rest : List ℕ) → client < all_clients → pieces_in (InHead []) (frame_of client [] ++ rest) ≡ Of client Last ∷ pieces_in
    (InHead []) rest
unfolding goes_on
last_read client rest other =
    let a = not_all client other in
    let h : headed client 0 ≡ head.Last client = rw a refl in
    ap (pieces_in (InHead [])) (append_assoc (frame_head client 0) [] rest)
    ∙ head_read client 0 rest (omega (arith, other)) (omega arith)
    ∙ ap (λ h. goes_on (begun h) rest) h

pub now_read : (rest : List ℕ) → pieces_in (InHead []) (frame_of all_clients [] ++ rest) ≡ Flush ∷ pieces_in (InHead []) rest
unfolding goes_on
now_read rest =
    ap (pieces_in (InHead [])) (append_assoc (frame_head all_clients 0) [] rest)
    ∙ head_read all_clients 0 rest (omega arith) (omega arith)

-- ---- where frames are cut
pieces_more : (xs ys : List ℕ) → pieces (xs ++ ys) ≡ pieces xs ++ pieces ys
unfolding pieces
pieces_more [] ys = refl
pieces_more (x ∷ xs) ys = ap (λ l. Byte x ∷ l) (pieces_more xs ys)

named_more : {X : Type 0} (client : ℕ) (xs ys : List X) → tag_all client (xs ++ ys) ≡ tag_all client xs ++ tag_all client ys
unfolding tag_all
named_more client [] ys = refl
named_more client (x ∷ xs) ys = ap (λ l. Of client x ∷ l) (named_more client xs ys)

pub cuts : (client : ℕ) (front back rest : List ℕ) → client < all_clients → 0 < length front → 0 < length back → length front + length back ≤ max_frame_bytes
    → pieces_in (InHead []) (frame_of client (front ++ back) ++ rest) ≡ pieces_in (InHead []) (frame_of client front ++ (frame_of client back ++ rest))
cuts client front back rest other a b short =
    let len = length-append front back in
    frame_read client (front ++ back) rest other (omega (arith, len, a)) (omega (arith, len, short))
    ∙ ap (λ l. l ++ pieces_in (InHead []) rest) (ap (tag_all client) (pieces_more front back) ∙ named_more client (pieces front) (pieces back))
    ∙ append_assoc (tag_all client (pieces front)) (tag_all client (pieces back)) (pieces_in (InHead []) rest)
    ∙ sym (frame_read client front (frame_of client back ++ rest) other a (omega (arith, short))
    ∙ ap (λ l. tag_all client (pieces front) ++ l) (frame_read client back rest other b (omega (arith, short))))
