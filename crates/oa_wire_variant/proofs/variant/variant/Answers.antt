use Rattle.std.proofs.Common.{inl, inr, sym, subst, ◌∙◌, arith}
use Rattle.oa_wire_variant.specs.Variants.{IsArrayVt}
use Rattle.oa_wire_text.proofs.Memory.{on_memory}
use Rattle.oa_wire_array.proofs.Heads.{head_lies}
use Rattle.oa_wire_variant.proofs.variant.variant.Goals as goal

pub returns-then-vt-lt-VT_ARRAY-clause-memory : goal.returns-then-vt-lt-VT_ARRAY-clause-memory
returns-then-vt-lt-VT_ARRAY-clause-memory c =
    let head = head_lies c.args.r.now c.align.new.self c.u32.new.self c.u32-2.new.self c.u16.new.self c.u16-2.new.self c.u16-3.new.self c.u16-4.new.self
    c.in_ok-align.field-0 c.in_ok-u32.field-0 c.in_ok-u32-2.field-0 c.in_ok-vt.vt c.in_ok-u16.field-0 c.in_ok-u16-2.field-0 c.in_ok-u16-3.field-0
    c.in_ok-align.ensures c.in_ok-u32.ensures c.in_ok-u32-2.ensures c.in_ok-vt.ensures c.in_ok-u16.ensures c.in_ok-u16-2.ensures c.in_ok-u16-3.ensures in
    on_memory c.scalar_value.result (λ is. inl (omega (arith, head.1, is.1), sym head.0 ∙ is.0)) c.scalar_value.ensures.memory

pub returns-clause-memory : goal.returns-clause-memory
returns-clause-memory c =
    let head = head_lies c.args.r.now c.align.new.self c.u32.new.self c.u32-2.new.self c.u16.new.self c.u16-2.new.self c.u16-3.new.self c.u16-4.new.self
    c.in_ok-align.field-0 c.in_ok-u32.field-0 c.in_ok-u32-2.field-0 c.in_ok-vt.vt c.in_ok-u16.field-0 c.in_ok-u16-2.field-0 c.in_ok-u16-3.field-0
    c.in_ok-align.ensures c.in_ok-u32.ensures c.in_ok-u32-2.ensures c.in_ok-vt.ensures c.in_ok-u16.ensures c.in_ok-u16-2.ensures c.in_ok-u16-3.ensures in
    on_memory c.array_value.result (λ is. inr (omega (arith, head.1, is.1), subst IsArrayVt head.0 is.0)) c.array_value.ensures.memory
