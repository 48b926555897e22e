use Rattle.std.proofs.Common.{arith}
use Rattle.oa_wire_text.proofs.Memory.{on_memory, unit_there, referent_there}
use Rattle.oa_wire_variant.proofs.variant.array_union.Goals as goal

pub returns-then-is_set-clause-memory : goal.returns-then-is_set-clause-memory
returns-then-is_set-clause-memory c =
    let number = unit_there 4 c.args.r.now c.u32.new.self c.in_ok-discriminant.discriminant c.in_ok-discriminant.ensures in
    let first = referent_there c.u32.new.self c.referent.new.self c.in_ok-is_set.is_set c.in_ok-is_set.ensures in
    on_memory c.array.result (λ is. (is.0, omega (arith, number, first, is.1))) c.array.ensures.memory
