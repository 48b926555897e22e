-- What frames spell.
use Rattle.std.proofs.Common.{◌≡◌, ◌≤◌, ◌<◌, ℕ, ◌+◌, ◌-◌, ◌*◌, ◌/◌, min, List, [], ◌∷◌, ◌++◌, length, take, drop, refl, sym, ap, ◌∙◌, subst, arith}
use Rattle.std.proofs.Common.{append_assoc}
use Rattle.std.proofs.lemmas.List.{take_at, length-append, length-drop, length-take-le}
use Rattle.std.proofs.lemmas.Slice.{take-put_mid}
use Rattle.std.proofs.Math.Seq.{take-add}
use Rattle.std.specs.Int.{w32, to_le_bytes}
use borrow.Rule.Slice.PartMut.{put_mid}
use Rattle.oa_mux.specs.promise.Frames.{InHead, all_clients, frame_head, frame_of, max_frame_bytes, pieces_in}
use Rattle.oa_mux.specs.promise.Marks.{StreamPiece, Byte, Last, Flush, Of, tag_all}
use Rattle.oa_mux.specs.Marks.{pieces}
use Rattle.oa_gateway.specs.Frames.{SpellsFrames, gateway_number}

-- what the laws of frames say
abbrev pub BytesAreRead : Type 0
BytesAreRead = (client : ℕ) (bytes rest : List ℕ) → client < all_clients → 0 < length bytes → length bytes ≤ max_frame_bytes
    → pieces_in (InHead []) (frame_of client bytes ++ rest) ≡ tag_all client (pieces bytes) ++ pieces_in (InHead []) rest

abbrev pub NowIsRead : Type 0
NowIsRead = (rest : List ℕ) → pieces_in (InHead []) (frame_of all_clients [] ++ rest) ≡ Flush ∷ pieces_in (InHead []) rest

abbrev pub LastIsRead : Type 0
LastIsRead = (client : ℕ) (rest : List ℕ) → client < all_clients → pieces_in (InHead []) (frame_of client [] ++ rest) ≡ Of client Last ∷ pieces_in
    (InHead []) rest

pieces_more : (xs ys : List ℕ) → pieces (xs ++ ys) ≡ pieces xs ++ pieces ys
unfolding pieces
pieces_more [] ys = refl
pieces_more (x ∷ xs) ys = ap (λ l. Byte x ∷ l) (pieces_more xs ys)

named_more : {X : Type 0} (client : ℕ) (xs ys : List X) → tag_all client (xs ++ ys) ≡ tag_all client xs ++ tag_all client ys
unfolding tag_all
named_more client [] ys = refl
named_more client (x ∷ xs) ys = ap (λ l. Of client x ∷ l) (named_more client xs ys)

-- nothing
pub no_bytes : (number : ℕ) (out bytes : List ℕ) → SpellsFrames number (take 0 out) (pieces (take 0 bytes))
unfolding tag_all pieces
no_bytes number out bytes = record { read = λ rest. refl }

pub nothing : (number : ℕ) (out : List ℕ) → SpellsFrames number (take 0 out) []
unfolding tag_all
nothing number out = record { read = λ rest. refl }

-- one behind the other
both : (number : ℕ) (front back : List ℕ) (before behind : List StreamPiece) → SpellsFrames number front before → SpellsFrames number back behind
    → SpellsFrames number (front ++ back) (before ++ behind)
both number front back before behind f b = record {
  read = λ rest. ap (pieces_in (InHead [])) (append_assoc front back rest)
      ∙ f.read (back ++ rest)
      ∙ ap (λ l. tag_all number before ++ l) (b.read rest)
      ∙ sym (append_assoc (tag_all number before) (tag_all number behind) (pieces_in (InHead []) rest))
      ∙ ap (λ l. l ++ pieces_in (InHead []) rest) (sym (named_more number before behind));
}

-- one frame
one_frame : BytesAreRead → (number : ℕ) (bytes : List ℕ) → number < all_clients → 0 < length bytes → length bytes ≤ max_frame_bytes
    → SpellsFrames number (frame_of number bytes) (pieces bytes)
one_frame law number bytes a b c = record { read = λ rest. law number bytes rest a b c }

pub frame_length : (number : ℕ) (bytes : List ℕ) → length (frame_of number bytes) ≡ 8 + length bytes
frame_length number bytes =
    length-append (frame_head number (length bytes)) bytes
    ∙ ap (λ n. n + length bytes) (length-append (to_le_bytes w32 number) (to_le_bytes w32 (length bytes)))

pub more_bytes : BytesAreRead → (number at count done k : ℕ) (out bytes frame : List ℕ) → number < all_clients → 0 < count → count ≤ max_frame_bytes
    → count ≤ length bytes - done
    → frame ≡ frame_of number (take count (drop done bytes)) → at ≤ length out → SpellsFrames number (take at out) (pieces (take done bytes))
    → SpellsFrames number (take (at + (8 + count)) (put_mid at k out frame)) (pieces (take (done + count) bytes))
more_bytes law number at count done k out bytes frame small some short room is within front =
    let chunk : List ℕ = take count (drop done bytes) in
    let rest = length-drop done bytes in
    let long : length chunk ≡ count = length-take-le count (drop done bytes) (omega (arith, rest, room)) in
    let all : length frame ≡ 8 + count = ap length is ∙ frame_length number chunk ∙ ap (λ n. 8 + n) long in
    let one = one_frame law number chunk small (omega (arith, long, some)) (omega (arith, long, short)) in
    let said : pieces (take (done + count) bytes) ≡ pieces (take done bytes) ++ pieces chunk = ap pieces (take-add done count bytes)
    ∙ pieces_more (take done bytes) chunk in
    let put : take (at + (8 + count)) (put_mid at k out frame) ≡ take at out ++ frame_of number chunk =
    take-put_mid at k out frame (at + (8 + count)) (omega (arith, all)) within ∙ ap (λ l. take at out ++ l) is in
    subst (λ l. SpellsFrames number (take (at + (8 + count)) (put_mid at k out frame)) l) (sym said)
    (subst (λ l. SpellsFrames number l (pieces (take done bytes) ++ pieces chunk)) (sym put)
    (both number (take at out) (frame_of number chunk) (pieces (take done bytes)) (pieces chunk) front one))

pub one_last : LastIsRead → (number : ℕ) → number < all_clients → SpellsFrames number (frame_of number []) (Last ∷ [])
unfolding tag_all
one_last law number small = record { read = λ rest. law number rest small }

-- ---- the room that frames need

pub room_first : (n out : ℕ) → n ≤ out → n / 1048576 + 1 ≤ (out - n) / 8 → 0 + (n - 0) + 8 * ((n - 0 + 1048575) / 1048576) ≤ out
room_first n out fits room = omega arith

-- so many bytes more, and those that are left
pub room_next : (at len done count out : ℕ) → done < len → count ≡ min (len - done) 1048576 → at + (len - done) + 8 * ((len - done + 1048575) / 1048576) ≤ out
    → at + (8 + count) + (len - (done + count)) + 8 * ((len - (done + count) + 1048575) / 1048576) ≤ out
room_next at len done count out more is room = omega arith

pub mid_length : (a k : ℕ) (xs ys : List ℕ) → a + k ≤ length xs → length ys ≡ k → length (put_mid a k xs ys) ≡ length xs
mid_length a k xs ys room long =
    let front = length-take-le a xs (omega (arith, room)) in
    let rest = length-drop k (drop a xs) in
    let past = length-drop a xs in
    let back = length-append ys (drop k (drop a xs)) in
    let all = length-append (take a xs) (ys ++ drop k (drop a xs)) in
    omega (arith, front, rest, past, back, all, room, long)

-- ---- an end, and what ends a batch

pub put_last : LastIsRead → (number : ℕ) (frame rest : List ℕ) → number < all_clients → frame ≡ frame_of number [] → (8 ≤ length (frame ++ rest))
    × SpellsFrames number (take 8 (frame ++ rest)) (Last ∷ [])
put_last law number frame rest small e =
    let len : length frame ≡ 8 = ap length e ∙ frame_length number [] in
    let all = length-append frame rest in
    (omega (arith, len, all), subst (λ l. SpellsFrames number l (Last ∷ [])) (sym (take_at frame rest 8 len ∙ e)) (one_last law number small))

pub put_now : LastIsRead → NowIsRead → (one two out : List ℕ) → one ≡ frame_of gateway_number [] → two ≡ frame_of all_clients [] → 16 ≤ length out
    → (16 ≤ length (put_mid 8 8 (one ++ drop 8 out) two))
    × ((rest : List ℕ) → pieces_in (InHead []) (take 16 (put_mid 8 8 (one ++ drop 8 out) two) ++ rest) ≡ Of gateway_number Last ∷ Flush ∷ pieces_in
    (InHead []) rest)
put_now last now one two out e f room =
    let len : length one ≡ 8 = ap length e ∙ frame_length gateway_number [] in
    let len' : length two ≡ 8 = ap length f ∙ frame_length all_clients [] in
    let tail = length-drop 8 out in
    let both = length-append one (drop 8 out) in
    let all = mid_length 8 8 (one ++ drop 8 out) two (omega (arith, len, tail, both, room)) len' in
    let put : take 16 (put_mid 8 8 (one ++ drop 8 out) two) ≡ frame_of gateway_number [] ++ frame_of all_clients [] =
    take-put_mid 8 8 (one ++ drop 8 out) two 16 (omega (arith, len')) (omega (arith, len, both))
    ∙ ap (λ l. l ++ two) (take_at one (drop 8 out) 8 len ∙ e)
    ∙ ap (λ l. frame_of gateway_number [] ++ l) f in (
      omega (arith, all, len, tail, both, room),
      λ rest. ap (λ l. pieces_in (InHead []) (l ++ rest)) put
          ∙ ap (pieces_in (InHead [])) (append_assoc (frame_of gateway_number []) (frame_of all_clients []) rest)
          ∙ last gateway_number (frame_of all_clients [] ++ rest) (omega arith)
          ∙ ap (λ l. Of gateway_number Last ∷ l) (now rest),
    )
