-- Two stretches of bytes at the start of a buffer.
use Rattle.std.proofs.Common.{◌≡◌, ℕ, ◌+◌, ◌-◌, List, ◌++◌, length, take, ap, ◌∙◌, arith}
use Rattle.std.proofs.lemmas.List.{length-append, take_at}
use Rattle.std.proofs.lemmas.Slice.{take-put_mid}
use borrow.Rule.Slice.PartMut.{put_mid}

-- one behind the other
pub two_pieces : (one two rest : List ℕ) (k n : ℕ) → length one ≡ k → n ≡ k + length two → take n (put_mid k (n - k) (one ++ rest) two) ≡ one ++ two
two_pieces one two rest k n first all =
    take-put_mid k (n - k) (one ++ rest) two n all (omega (arith, length-append one rest, first))
    ∙ ap (λ l. l ++ two) (take_at one rest k first)
