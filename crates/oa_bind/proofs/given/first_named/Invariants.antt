use Rattle.std.proofs.Common.{◌≡◌, drop}
use Rattle.std.specs.List.{position_from}
use Rattle.std.specs.Ordering.{int_eq}
use Rattle.oa_bind.proofs.given.first_named.Given as goal

abbrev pub invariant-named : goal.invariant-named
invariant-named l = position_from (λ n. int_eq n l.id) l.i (drop l.i l.named) ≡ position_from (λ n. int_eq n l.fn.id) 0 l.fn.named
