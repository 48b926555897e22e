-- A frame of a reply, put in two parts.
use Rattle.std.proofs.Common.{◌≡◌, ◌<◌, ◌+◌, ℕ, append_assoc, List, [], ◌∷◌, ◌++◌, length, refl, sym, ap, ◌∙◌, arith}
use Rattle.std.proofs.lemmas.List.{length-append}
use Rattle.std.specs.Int.{w32, to_le_bytes}
use Rattle.oa_frame.specs.promise.Framings.{records}
use Rattle.oa_mux.specs.promise.Frames.{frame_head}
use Rattle.oa_mux.specs.promise.Outgoing.{framed_reply, spelled_frame}

module _ (client count : ℕ) (head fields : List ℕ) (some : 0 < length head) (is : count ≡ 4 + length head + length fields) where
  long : length (records.spelled (head ++ fields)) ≡ count
  long = let a = length-append (to_le_bytes w32 (length (head ++ fields))) (head ++ fields) in let b = length-append head fields in omega (arith, a, b, is)

  framed : (l : List ℕ) → 0 < length l → framed_reply (l ++ fields) ≡ records.spelled (l ++ fields)
  framed [] h = absurd (omega (arith, h))
  framed (x ∷ xs) h = refl

  whole : frame_head client count ++ records.spelled (head ++ fields) ≡ spelled_frame (client, head ++ fields)
  whole = sym (ap (λ l. frame_head client (length l) ++ l) (framed head some) ∙ ap (λ n. frame_head client n ++ records.spelled (head ++ fields)) long)

  -- what stands before the second stretch, and that
  pub laid_out : (n : ℕ) → n ≡ length head + length fields → ((frame_head client (4 + n) ++ to_le_bytes w32 n) ++ head) ++ fields ≡ spelled_frame
      (client, head ++ fields)
  laid_out n e =
      let all = length-append head fields in
      let same : n ≡ length (head ++ fields) = omega (arith, all, e) in
      let sum : 4 + n ≡ count = omega (arith, e, is) in
      append_assoc (frame_head client (4 + n) ++ to_le_bytes w32 n) head fields
      ∙ append_assoc (frame_head client (4 + n)) (to_le_bytes w32 n) (head ++ fields)
      ∙ ap (λ k. frame_head client k ++ (to_le_bytes w32 n ++ (head ++ fields))) sum
      ∙ ap (λ k. frame_head client count ++ (to_le_bytes w32 k ++ (head ++ fields))) same
      ∙ whole
