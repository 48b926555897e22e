-- How many calls pieces take.
use Rattle.std.proofs.Common.{◌≡◌, ℕ, suc, ◌+◌, ◌*◌, ◌-◌, ◌<◌, ◌≤◌, min, arith}
use Rattle.std.specs.Int.{div_ceil}
use Rattle.std.proofs.lemmas.Grind.{div_ceil_times}
use Rattle.std.proofs.Math.Nat.{lt_of_mul-lt-mul_right}

-- So many bytes of all were written in pieces, each of two moments at most: each is as long as the buffer, but the last one.
pub record HasWritten (since now buffer at all : ℕ) : Type 0 where
  pub writes : ℕ
  pub soon : now ≤ since + 2 * (1 + writes)
  pub few : writes * buffer < at + buffer
  pub full : at < all → writes * buffer ≤ at

pub one_more : (since now later buffer at all n : ℕ) → HasWritten since now buffer at all → later ≤ now + 2 → 0 < n
    → n ≡ min buffer (all - at) → HasWritten since later buffer (at + n) all
one_more since now later buffer at all n so_far soon some is =
    let left : at < all = omega (arith, some, is) in
    let before = so_far.full left in
    record {
      writes = suc so_far.writes;
      soon = omega (arith, so_far.soon, soon);
      few = omega (arith, before, some);
      full = λ lt. omega (arith, before, is, lt);
    }

pub counted : (since now buffer at all : ℕ) → HasWritten since now buffer at all → at ≤ all → 0 < buffer
    → now ≤ since + 2 * (1 + div_ceil all buffer)
counted since now buffer at all so_far le some =
    let enough = (div_ceil_times all buffer some).0 in
    let lt : so_far.writes * buffer < suc (div_ceil all buffer) * buffer = omega (arith, so_far.few, le, enough) in
    let few = lt_of_mul-lt-mul_right buffer {m = so_far.writes} {n = suc (div_ceil all buffer)} lt in
    omega (arith, few, so_far.soon)
