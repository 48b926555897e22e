use Rattle.std.proofs.Common.{Some, sym, ap, ◌∙◌, arith}
use Rattle.oa_model.specs.declared.var_type.VarType.TheVariants as types
use Rattle.oa_wire_text.proofs.Memory.{on_memory, unit_there}
use Rattle.oa_wire_array.proofs.ScalarLaws.{vt_from_type_at}
use Rattle.oa_wire_array.proofs.scalar.union.Goals as goal

pub returns-in-Some-clause-memory : goal.returns-in-Some-clause-memory
returns-in-Some-clause-memory c =
    let there = unit_there 4 c.args.r.now c.u32.new.self c.in_ok-discriminant.discriminant c.in_ok-discriminant.ensures in
    on_memory c.arm.result (λ is. (
      sym (vt_from_type_at c.args.vt types.Bstr (sym c.from_vt.ensures ∙ c.in-Some.is ∙ ap Some is.0)),
      omega (arith, there, is.1),
    )) c.arm.ensures.memory
