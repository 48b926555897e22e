-- What one byte above a limit tells of the bytes that a reader has left.
use Rattle.std.proofs.Common.{◌≡◌, ◌+◌, ◌<◌, ◌≤◌, ◌++◌, ℕ, List, [], take, length, Option, None, Some, IfSome, arith, ap, ◌∙◌}
use Rattle.std.proofs.lemmas.List.{length-take, take_all}
use Rattle.std.specs.Option.{option_map}

-- no more than the limit is all that was left
pub whole : (known : Option (List ℕ)) (limit : ℕ) (bytes : List ℕ) → IfSome (option_map (take (limit + 1)) known) (λ xs. bytes ≡ [] ++ xs)
    → length bytes ≤ limit
    → IfSome known (λ all. (length all ≤ limit) × (bytes ≡ all))
whole None limit bytes read short = tt
whole (Some all) limit bytes read short =
    let few : length all ≤ limit = omega (arith, ap length read, length-take (limit + 1) all, short) in
    (few, read ∙ take_all (limit + 1) all (omega (arith, few)))

-- more than it: more was left
pub above : (known : Option (List ℕ)) (limit : ℕ) (bytes : List ℕ) → IfSome (option_map (take (limit + 1)) known) (λ xs. bytes ≡ [] ++ xs)
    → limit < length bytes
    → IfSome known (λ all. length all ≤ limit → ⊥)
above None limit bytes read long = tt
above (Some all) limit bytes read long = λ few. absurd (omega (arith, ap length read, length-take (limit + 1) all, few, long))
