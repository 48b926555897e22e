-- The bytes of frames say which frames they are.
use Rattle.std.proofs.Common.{◌≡◌, ◌<◌, ◌^◌, ℕ, List, [], ◌∷◌, ◌++◌, length, take, drop, refl, sym, ap, ◌∙◌, arith, append_assoc, length-append}
use Rattle.std.specs.Int.{w32, from_le_bytes, to_le_bytes}
use Rattle.std.proofs.lemmas.List.{take_at, drop_at}
use Rattle.std.proofs.lemmas.Nat.{from_le_bytes-to_le_bytes_4}
use Rattle.oa_mux.specs.promise.Frames.{frame_head, frame_of}
use Rattle.oa_mux.specs.promise.Outgoing.{framed_reply, spelled_frame, spelled_frames}
use Rattle.oa_linearizable.specs.Clients.{FramesOutAreFrames}

four_bytes : (n : ℕ) → length (to_le_bytes w32 n) ≡ 4
four_bytes n = refl

-- a frame that is read: its number, the bytes behind its head, and what follows
number_at : List ℕ → ℕ
number_at bytes = from_le_bytes w32 (take 4 bytes)

-- ---- what stands behind a frame
behind_number : (client : ℕ) (bytes rest : List ℕ)
    → frame_of client bytes ++ rest ≡ to_le_bytes w32 client ++ (to_le_bytes w32 (length bytes) ++ (bytes ++ rest))
behind_number client bytes rest =
    append_assoc (to_le_bytes w32 client ++ to_le_bytes w32 (length bytes)) bytes rest
    ∙ append_assoc (to_le_bytes w32 client) (to_le_bytes w32 (length bytes)) (bytes ++ rest)

client_said : (client : ℕ) (bytes rest : List ℕ) → client < 2 ^ 32 → from_le_bytes w32 (take 4 (frame_of client bytes ++ rest)) ≡ client
client_said client bytes rest fits =
    ap (λ (l : List ℕ). from_le_bytes w32 (take 4 l)) (behind_number client bytes rest)
    ∙ ap (from_le_bytes w32) (take_at (to_le_bytes w32 client) (to_le_bytes w32 (length bytes) ++ (bytes ++ rest)) 4 (four_bytes client))
    ∙ from_le_bytes-to_le_bytes_4 client fits

behind_client : (client : ℕ) (bytes rest : List ℕ) → drop 4 (frame_of client bytes ++ rest) ≡ to_le_bytes w32 (length bytes) ++ (bytes ++ rest)
behind_client client bytes rest =
    ap (drop 4) (behind_number client bytes rest) ∙ drop_at (to_le_bytes w32 client) (to_le_bytes w32 (length bytes) ++ (bytes ++ rest)) 4 (four_bytes client)

length_said : (client : ℕ) (bytes rest : List ℕ) → length bytes < 2 ^ 32 → from_le_bytes w32 (take 4 (drop 4 (frame_of client bytes ++ rest))) ≡ length bytes
length_said client bytes rest fits =
    ap (λ (l : List ℕ). from_le_bytes w32 (take 4 l)) (behind_client client bytes rest)
    ∙ ap (from_le_bytes w32) (take_at (to_le_bytes w32 (length bytes)) (bytes ++ rest) 4 (four_bytes (length bytes)))
    ∙ from_le_bytes-to_le_bytes_4 (length bytes) fits

behind_head : (client : ℕ) (bytes rest : List ℕ) → drop 4 (drop 4 (frame_of client bytes ++ rest)) ≡ bytes ++ rest
behind_head client bytes rest =
    ap (drop 4) (behind_client client bytes rest) ∙ drop_at (to_le_bytes w32 (length bytes)) (bytes ++ rest) 4 (four_bytes (length bytes))

-- ---- two frames with the same bytes
module _ (a b : ℕ) (xs ys more others : List ℕ) (same : frame_of a xs ++ more ≡ frame_of b ys ++ others) where
  same_client : a < 2 ^ 32 → b < 2 ^ 32 → a ≡ b
  same_client one two = sym (client_said a xs more one) ∙ ap (λ (l : List ℕ). from_le_bytes w32 (take 4 l)) same ∙ client_said b ys others two

  same_length : length xs < 2 ^ 32 → length ys < 2 ^ 32 → length xs ≡ length ys
  same_length one two = sym (length_said a xs more one) ∙ ap (λ (l : List ℕ). from_le_bytes w32 (take 4 (drop 4 l))) same ∙ length_said b ys others two

  same_rest : xs ++ more ≡ ys ++ others
  same_rest = sym (behind_head a xs more) ∙ ap (λ (l : List ℕ). drop 4 (drop 4 l)) same ∙ behind_head b ys others

  same_bytes : length xs ≡ length ys → xs ≡ ys
  same_bytes len = sym (take_at xs more (length xs) refl) ∙ ap (take (length xs)) same_rest ∙ take_at ys others (length xs) (sym len)

  same_behind : length xs ≡ length ys → more ≡ others
  same_behind len = sym (drop_at xs more (length xs) refl) ∙ ap (drop (length xs)) same_rest ∙ drop_at ys others (length xs) (sym len)

-- a reply by its bytes in a frame
reply_in : (reply : List ℕ) → drop 4 (framed_reply reply) ≡ reply
reply_in [] = refl
reply_in (x ∷ reply) = drop_at (to_le_bytes w32 (length (x ∷ reply))) (x ∷ reply) 4 (four_bytes (length (x ∷ reply)))

no_frame : (frame : ℕ × List ℕ) (frames : List (ℕ × List ℕ)) → [] ≡ spelled_frames (frame ∷ frames) → ⊥
unfolding spelled_frames
no_frame frame frames is =
    absurd (omega (
      arith,
      ap length is,
      length-append (spelled_frame frame) (spelled_frames frames),
      length-append
          (frame_head frame.0 (length (framed_reply frame.1))) (framed_reply frame.1),
      length-append (to_le_bytes w32 frame.0) (to_le_bytes w32 (length (framed_reply frame.1))),
      four_bytes frame.0,
    ))

pub one_list : FramesOutAreFrames
unfolding spelled_frames
one_list [] [] one two same = refl
one_list [] (y ∷ ys) one two same = absurd (no_frame y ys same)
one_list (x ∷ xs) [] one two same = absurd (no_frame x xs (sym same))
one_list (x ∷ xs) (y ∷ ys) one two same =
    let a = framed_reply x.1 in
    let b = framed_reply y.1 in
    let rest = spelled_frames xs in
    let others = spelled_frames ys in
    let len = same_length x.0 y.0 a b rest others same one.0.length_fits two.0.length_fits in
    let client = same_client x.0 y.0 a b rest others same one.0.client two.0.client in
    let bytes : x.1 ≡ y.1 = sym (reply_in x.1) ∙ ap (drop 4) (same_bytes x.0 y.0 a b rest others same len) ∙ reply_in y.1 in
    ap (λ (n : ℕ). (n, x.1) ∷ xs) client ∙ ap (λ (l : List ℕ). (y.0, l) ∷ xs) bytes
    ∙ ap (λ (l : List (ℕ × List ℕ)). y ∷ l) (one_list xs ys one.1 two.1 (same_behind x.0 y.0 a b rest others same len))
