-- The count of failures.
use Rattle.std.proofs.Common.{ℕ, ◌-◌, ◌^◌, ◌<◌, ◌≤◌, min, arith}

pub below_all : (n : ℕ) → n < 2 ^ 64 → n ≤ 2 ^ 64 - 1
below_all n lt = omega arith

pub min_below : (n m : ℕ) → min n m ≤ m
min_below n m = omega arith

pub none_below : 0 ≤ 2 ^ 64 - 1
none_below = omega arith
